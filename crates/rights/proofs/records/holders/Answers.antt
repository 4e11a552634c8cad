-- `holders` is the word of the groups that are granted the class. The invariant: of those passed.
use native.Mathlib.Omega.{arith}
use mathlib.Core.Path.{sym, ◌∙◌}
use Rattle.rights.specs.Register.{is_granted}
use Rattle.rights.proofs.Holders.{holder-more, holder-none}
use Rattle.rights.proofs.records.holders.Goals as goal
use Rattle.rights.proofs.records.holders.Goals.{else-has, then-has}

pub loop-group-preserved : goal.loop-group-preserved
unfolding is_granted
loop-group-preserved c =
    let has = c.has.ensures in
    let at = c.loop-group in
    elim c.if-has.branch [ then-has w ↦ w.groups-is ∙ rw at.invariant (holder-more _ _ at.group (omega (arith, c.loop-group-test.true)) (sym has ∙ w.if-has.true)) | else-has w ↦ w.groups-is ∙ at.invariant ∙ holder-none _ _ at.group (sym has ∙ w.if-has.false) ]
