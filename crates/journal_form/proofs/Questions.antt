-- The form of a command, exit by exit; and what a well-formed command has behind it.
use Prim.Native.Nat.{ℕ, ◌+◌, ◌<◌, ◌≤◌}
use mathlib.Core.Path.{◌≡◌, refl}
use mathlib.Core.Bool.{Bool, true, false, cond}
use mathlib.Core.List.{List, [], ◌∷◌}
use native.Mathlib.Omega.{arith}
use lib.Dec.{leb}
use lib.ListN.{length, drop, length-drop}
use borrow.Author.Tests.{le-leb, lt-leb, leb-true}
use Rattle.meaning.specs.Refusal.{first_no}
use Rattle.meaning.specs.Journal.{known, operand_bytes, in_place, form, taken, mark_at, form_at}

pub no_bytes : (m mark : ℕ) (xs : List ℕ) → length xs ≡ 0 → 1 ≡ form m mark xs
unfolding form
no_bytes m mark [] h = refl
no_bytes m mark (c ∷ xs) h = omega arith

-- the command byte, and what is behind it
module _ (m mark c : ℕ) (operands : List ℕ) {xs : List ℕ} (e : xs ≡ c ∷ operands) where
  pub unknown : known c ≡ false → 1 ≡ form m mark xs
  unfolding form first_no
  unknown k = rw (e, k) refl

  pub misplaced : known c ≡ true → in_place mark c ≡ false → 2 ≡ form m mark xs
  unfolding form first_no
  misplaced k p = rw (e, k, p) refl

  pub cut : known c ≡ true → in_place mark c ≡ true → length operands < operand_bytes m c → 3 ≡ form m mark xs
  unfolding form first_no
  cut k p o = rw (e, k, p, lt-leb (operand_bytes m c) (length operands) o) refl

  pub whole : known c ≡ true → in_place mark c ≡ true → operand_bytes m c ≤ length operands → 0 ≡ form m mark xs
  unfolding form first_no
  whole k p o = rw (e, k, p, le-leb (operand_bytes m c) (length operands) o) refl

-- 1 to 3, or none
pub three : (m mark : ℕ) (xs : List ℕ) → form m mark xs ≤ 3
unfolding form first_no
three m mark [] = omega arith
three m mark (c ∷ xs) = go (known c) (in_place mark c) (leb (operand_bytes m c) (length xs))
  where
    go : (k p o : Bool) → cond k (cond p (cond o 0 3) 2) 1 ≤ 3
    go true true true = omega arith
    go true true false = omega arith
    go true false o = omega arith
    go false p o = omega arith

-- where 1 to 3 are passed, the operands are there
pub operands-there : (m mark : ℕ) (xs : List ℕ) → form m mark xs ≡ 0 → taken m xs ≤ length xs
unfolding form first_no taken
operands-there m mark [] h = omega arith
operands-there m mark (c ∷ xs) h = go (known c) (in_place mark c) (leb (operand_bytes m c) (length xs)) refl h
  where
    go : (k p o : Bool) → leb (operand_bytes m c) (length xs) ≡ o → ◌≡◌ {A = ℕ} (cond k (cond p (cond o 0 3) 2) 1) 0 → 1 + operand_bytes m c ≤ length (c ∷ xs)
    go true true true e h = omega (arith, leb-true (operand_bytes m c) (length xs) e)
    go true true false e h = omega arith
    go true false o e h = omega arith
    go false p o e h = omega arith

pub behind-there : (m : ℕ) (bytes : List ℕ) (at : ℕ) → at < length bytes → form_at m bytes at ≡ 0 → at + taken m (drop at bytes) ≤ length bytes
unfolding form_at
behind-there m bytes at h f = omega (arith, operands-there m (mark_at at) (drop at bytes) f, length-drop at bytes)
