-- `change` keeps its promise.
use native.Mathlib.Omega.{arith}
use mathlib.Core.Path.{◌≡◌, refl}
use Rattle.std.specs.Prelude.{Err}
use Rattle.refusals.proofs.Refusals.{not_zero}
use Rattle.rights.specs.Changes.{change_meant}
use Rattle.register.proofs.RightsCalls.{refused, passed, done}
use Rattle.register.proofs.change.Goals as goal

pub returns-in_err-admit : goal.returns-in_err-admit
returns-in_err-admit c =
    let up : c.from_residual.result ≡ Err c.in_err-admit.field-0.0 = grind arith in
    rw up (refused (change_meant c.args.change) _ _ c.in_err-admit.ensures (not_zero _))

pub make_change-requires-clause-long : goal.make_change-requires-clause-long
make_change-requires-clause-long c = (passed (change_meant c.args.change) _ _ c.in_ok-admit.ensures refl).0

pub make_change-requires-clause-in_range : goal.make_change-requires-clause-in_range
make_change-requires-clause-in_range c = (passed (change_meant c.args.change) _ _ c.in_ok-admit.ensures refl).1

pub returns : goal.returns
returns c = done (change_meant c.args.change) _ _ c.in_ok-admit.ensures refl _ c.make_change.ensures
