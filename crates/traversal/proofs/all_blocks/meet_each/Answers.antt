-- `meet_each`: the blocks from j on are still to be walked, with what is left of the nodes.
use native.Mathlib.Omega.{arith}
use mathlib.Core.Path.{◌≡◌}
use Rattle.std.specs.Prelude.{Some, None}
use Rattle.traversal.proofs.Going.{going_start, going-same}
use Rattle.traversal.proofs.AllBlocks.{blocks_start, blocks-over, blocks_more, blocks-left, blocks-stop}
use Rattle.traversal.proofs.all_blocks.meet_each.Goals as goal

pub loop-j-init : goal.loop-j-init
loop-j-init c = (going-same _ _ (going_start _ _ _ _ _ _ c.requires.tallied) _ (blocks_start _ _ _ _ _ _), c.requires.radius_nonzero.1)

pub returns-in_err-tally : goal.returns-in_err-tally
returns-in_err-tally c =
    let none : c.meet_block.result ≡ None = grind arith in
    let up : c.from_residual.result ≡ None = grind arith in
    rw up (blocks-stop _ _ _ _ _ _ _ _ _ c.loop-j.invariant.0 c.loop-j-test.true c.meet_block.ensures none)

pub loop-j-preserved : goal.loop-j-preserved
loop-j-preserved c =
    let inv = c.loop-j.invariant in
    let taken = c.loop-j-test.true in
    let some : c.meet_block.result ≡ Some c.in_ok-tally.tally = grind arith in (
      blocks_more _ _ _ _ _ _ _ _ _ inv.0 taken c.meet_block.ensures _ some,
      omega (arith, inv.1, blocks-left _ _ _ _ _ _ _ _ _ inv.0 taken c.meet_block.ensures _ some),
    )

pub returns : goal.returns
returns c = blocks-over _ _ _ _ _ _ _ _ _ c.loop-j.invariant.0 c.loop-j-test.false
