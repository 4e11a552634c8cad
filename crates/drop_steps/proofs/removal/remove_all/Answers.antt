-- The function `remove_all` is the definition `remove_all`.
use native.Mathlib.Omega.{arith}
use borrow.Author.Rules.{rules}
use mathlib.Core.Path.{◌≡◌, refl}
use Rattle.std.specs.Prelude.{None}
use Rattle.drop_laws.proofs.Removes.{remove-start, remove-done, remove-more, remove-broken}
use Rattle.drop_steps.proofs.removal.remove_all.Goals as goal

pub loop-j-init : goal.loop-j-init
loop-j-init c = (remove-start _ _ _ _ _ _, search rules, search rules)

pub loop-j-preserved : goal.loop-j-preserved
loop-j-preserved c = (remove-more _ _ _ _ _ _ _ _ c.loop-j.invariant.0 (omega arith) _ _ _ c.in_ok-link.ensures _ refl, omega arith, omega arith)

pub returns-in_err-link : goal.returns-in_err-link
returns-in_err-link c =
    let up : c.from_residual.result ≡ None = grind arith in
    rw up (remove-broken _ _ _ _ _ _ _ _ c.loop-j.invariant.0 (omega arith) _ _ _ c.in_err-link.ensures refl)

pub returns : goal.returns
returns c = remove-done _ _ _ _ _ _ _ _ c.loop-j.invariant.0 (omega arith)
