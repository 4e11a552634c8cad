-- `write_row` is `with_row`. The invariant: the first i symbols of x stand in the row.
use Prim.Native.Nat.{◌*◌}
use native.Mathlib.Omega.{arith}
use Rattle.layout.proofs.Parts.{copied_more}
use Rattle.add_page.proofs.add.write_row.Goals as goal

pub loop-i-preserved : goal.loop-i-preserved
loop-i-preserved c =
    let a = c.args in
    let at = c.loop-i in
    copied_more a.sketches.now (a.p * a.m) a.x.now at.i at.sketches (omega arith) (omega arith) at.invariant
