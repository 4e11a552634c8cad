-- `admit` is `register_number`.
use native.Mathlib.Omega.{arith}
use mathlib.Core.Path.{◌≡◌, sym, ap}
use mathlib.Core.Bool.{not}
use Rattle.std.specs.Prelude.{Err}
use Rattle.entry.proofs.Questions.{fails, holds}
use Rattle.register.proofs.RightsCalls.{register-shown, register-refused}
use Rattle.register.proofs.admit.Goals as goal

pub returns-in_err-opening : goal.returns-in_err-opening
returns-in_err-opening c =
    let up : c.from_residual.result ≡ Err c.in_err-opening.field-0.0 = grind arith in
    rw up (sym (register-refused _ _ _ (sym c.in_err-opening.ensures)))

pub returns-then-not-is_in_range : goal.returns-then-not-is_in_range
returns-then-not-is_in_range c =
    rw (register-shown _ _ _ (sym c.in_ok-opening.ensures), fails c.is_in_range.ensures (ap not c.if-not-is_in_range.true))

pub returns : goal.returns
returns c =
    rw (register-shown _ _ _ (sym c.in_ok-opening.ensures), holds c.is_in_range.ensures (ap not c.if-not-is_in_range.false))
