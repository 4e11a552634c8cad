-- The function `nodes_needed` is the definition `nodes_needed`.
use Rattle.trie_room.specs.Needs.{needed_at, nodes_needed}
use mathlib.Core.Path.{ap, ◌∙◌}
use Rattle.trie_room.proofs.needed.nodes_needed.Goals as goal

pub returns : goal.returns
unfolding nodes_needed
returns c =
    let args = c.args in
    let growth = args.growth.now in
    c.needed_at.ensures
    ∙ ap (needed_at args.pages.now growth.sketches.now growth.thresholds.now growth.block.pages growth.block.base growth.rows args.bytes.now args.nodes.now growth.block.nodes)
    c.descend_to-reach.ensures.value
