-- `is_on_path` is `on_path`: the bytes from k on decide it.
use mathlib.Core.Path.{sym, ◌∙◌}
use Rattle.sketch.proofs.Runs.{all-fails, all-passes, all_done}
use Rattle.blocks.proofs.Bytes.{level-path}
use Rattle.node_check.proofs.LeafSteps.{match_at, match-fails, match-passes}
use Rattle.node_check.proofs.leaf.is_on_path.Goals as goal

pub returns-then-page_byte-path : goal.returns-then-page_byte-path
returns-then-page_byte-path c =
    let args = c.args in
    sym (all-fails (match_at args.leaves.now.sketches.now args.leaves.now.rows args.path.now args.p) c.loop-k.k args.depth c.loop-k-test.true (match-fails args.leaves.now.sketches.now args.leaves.now.rows args.path.now args.p _ _ _ c.level_at-level.ensures c.page_byte.ensures c.if-page_byte-path.true))
    ∙ c.loop-k.invariant

pub loop-k-preserved : goal.loop-k-preserved
loop-k-preserved c =
    let args = c.args in
    sym (all-passes (match_at args.leaves.now.sketches.now args.leaves.now.rows args.path.now args.p) c.loop-k.k args.depth c.loop-k-test.true (match-passes args.leaves.now.sketches.now args.leaves.now.rows args.path.now args.p _ _ _ c.level_at-level.ensures c.page_byte.ensures c.if-page_byte-path.false))
    ∙ c.loop-k.invariant

pub returns : goal.returns
returns c =
    let args = c.args in
    sym (all_done (match_at args.leaves.now.sketches.now args.leaves.now.rows args.path.now args.p) c.loop-k.k args.depth c.loop-k-test.false) ∙ c.loop-k.invariant

pub page_byte-requires-clause-sketch_table : goal.page_byte-requires-clause-sketch_table
page_byte-requires-clause-sketch_table c = level-path _ _ _ _ _ c.level_at-level.ensures c.args.leaves.now.row_table
