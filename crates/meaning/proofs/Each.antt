-- One more place set in an array keeps what holds of each place before it.
use Prim.Native.Nat.{ℕ, ◌+◌, ◌<◌}
use native.Mathlib.Omega.{arith}
use native.Mathlib.Decide.{ℕ_discrete}
use mathlib.Core.Path.{◌≡◌, sym, subst}
use mathlib.Core.List.{List}
use lib.ListN.{length, get_or, set}
use lib.Seq.{get_or-set_same, get_or-set_other}

pub each-put : {A : Type 0} (P : ℕ → A → Type 0) (none : A) (xs : List A) (j : ℕ) (x : A) → j < length xs → P j x
    → ((i : ℕ) → i < j → P i (get_or xs i none)) → (i : ℕ) → i < j + 1 → P i (get_or (set xs j x) i none)
each-put P none xs j x inside here each i l = go (ℕ_discrete i j)
  where
    go : Dec (i ≡ j) → P i (get_or (set xs j x) i none)
    go (yes e) = rw e (subst (P j) (sym (get_or-set_same xs j x none inside)) here)
    go (no n) = subst (P i) (sym (get_or-set_other xs j i x none n)) (each i (omega arith))
