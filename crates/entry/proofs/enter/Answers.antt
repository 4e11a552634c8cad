-- `enter` asks 5 and 6.
use native.Mathlib.Omega.{arith}
use mathlib.Core.Path.{◌≡◌, sym, ap}
use mathlib.Core.Bool.{not}
use Rattle.std.specs.Prelude.{Err}
use Rattle.entry.proofs.Questions.{fails, holds}
use Rattle.entry.proofs.Admits.{shown-limits}
use Rattle.entry.proofs.Enters.{enter-refused, enter-short, enter-all}
use Rattle.entry.proofs.enter.Goals as goal

pub returns-in_err-h : goal.returns-in_err-h
returns-in_err-h c =
    let up : c.from_residual.result ≡ Err c.in_err-h.field-0.0 = grind arith in
    rw up (enter-refused _ _ _ _ _ _ (sym c.in_err-h.ensures))

pub returns-then-not-long_working : goal.returns-then-not-long_working
returns-then-not-long_working c =
    enter-short _ _ _ _ _ _ (sym c.in_ok-h.ensures) (fails c.long_working.ensures (ap not c.if-not-long_working.true))

pub returns : goal.returns
returns c =
    enter-all _ _ _ _ _ _ (sym c.in_ok-h.ensures) (holds c.long_working.ensures (ap not c.if-not-long_working.false))
