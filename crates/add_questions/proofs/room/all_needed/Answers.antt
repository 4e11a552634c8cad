-- The function `all_needed` is the definition `all_needed`.
use Prim.Native.Nat.{◌≤◌}
use native.Mathlib.Omega.{arith}
use mathlib.Core.Path.{◌≡◌, refl}
use Rattle.std.specs.Prelude.{None}
use Rattle.add_laws.proofs.Rooms.{needs-start, needs-done, needs-more, needs-broken, needs-few}
use Rattle.add_questions.proofs.room.all_needed.Goals as goal
use Rattle.add_questions.proofs.room.all_needed.Goals.{In_ok-n}

-- what the block needs
few : (c : In_ok-n) → c.in_ok-n.n ≤ 65537
few c = omega (arith, c.requires.lent.limits.pages-most, needs-few _ _ _ _ _ _ _ c.in_ok-n.ensures _ refl)

pub loop-j-init : goal.loop-j-init
loop-j-init c = (needs-start _ _ _ _ _, omega arith)

pub overflow_add-sum : goal.overflow_add-sum
overflow_add-sum c = omega (arith, few c)

pub loop-j-preserved : goal.loop-j-preserved
loop-j-preserved c = (needs-more _ _ _ _ _ _ _ _ c.loop-j.invariant.0 (omega arith) _ c.in_ok-n.ensures _ refl, omega (arith, few c))

pub returns-in_err-n : goal.returns-in_err-n
returns-in_err-n c =
    let up : c.from_residual.result ≡ None = grind arith in
    rw up (needs-broken _ _ _ _ _ _ _ _ c.loop-j.invariant.0 (omega arith) _ c.in_err-n.ensures refl)

pub returns : goal.returns
returns c = needs-done _ _ _ _ _ _ _ _ c.loop-j.invariant.0 (omega arith)
