-- `write_thresholds` copies the thresholds behind the six words of a header.
use native.Mathlib.Omega.{arith}
use Rattle.layout.proofs.Parts.{copied_more}
use Rattle.settings.proofs.write_thresholds.Goals as goal

pub loop-k-preserved : goal.loop-k-preserved
loop-k-preserved c =
    let a = c.args in
    let at = c.loop-k in
    copied_more a.settings.now 6 a.thresholds.now at.k at.settings (omega arith) (omega arith) at.invariant
