-- `meet_blocks`: the block radius, and what is left of the nodes when the roots are counted.
use mathlib.Core.Path.{refl, sym}
use Rattle.traversal.proofs.Going.{meeting-same}
use Rattle.traversal.proofs.AllBlocks.{blocks-all}
use Rattle.traversal.proofs.all_blocks.meet_blocks.Goals as goal

pub returns-then-radius-eq0 : goal.returns-then-radius-eq0
returns-then-radius-eq0 c =
    let call = c in
    meeting-same (blocks-all _ _ _ _ _ _ _ (sym call.if-radius-eq0.true) refl) call.meet_exact.ensures

pub returns : goal.returns
returns c = meeting-same (blocks-all _ _ _ _ _ _ _ refl refl) c.meet_each.ensures
