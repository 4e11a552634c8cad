-- The rows of the sketch table.
use Prim.Native.Nat.{ℕ, ◌+◌, ◌*◌, ◌≤◌, ◌<◌}
use native.Mathlib.Omega.{arith}
use native.Mathlib.Nat.{suc-mul, mul-le-mul_right}
use mathlib.Core.Path.{◌≡◌, refl, ap}
use mathlib.Core.Bool.{Bool, true, false}
use mathlib.Core.Logic.{◌≢◌}
use mathlib.Core.List.{List}
use borrow.Author.Tests.{ltb-true, ltb-false}
use lib.Dec.{ltb}
use lib.ListN.{length, take, length-take, length-drop}
use Rattle.layout.specs.Pages.{row_of, with_row}
use Rattle.layout.proofs.Parts.{length-splice, splice_at, splice-before, splice-behind}

-- a later row begins where the row ends, or behind that
pub rows_apart : (m : ℕ) {p r : ℕ} → p < r → p * m + m ≤ r * m
rows_apart m {p} {r} h = rw suc-mul at (mul-le-mul_right m h)

-- every row lies in a table that has room for all
pub row_inside : (m P n : ℕ) {p : ℕ} → p < P → P * m ≤ n → p * m + m ≤ n
row_inside m P n {p} h long = omega (arith, rows_apart m h)

module _ (m : ℕ) (sketches : List ℕ) (p : ℕ) (inside : p * m + m ≤ length sketches) where
  pub length-row : length (row_of m sketches p) ≡ m
  unfolding row_of
  length-row = simp (length-take, length-drop) (omega arith)

  module _ (x : List ℕ) (long : length x ≡ m) where
    pub length-with-row : length (with_row m sketches p x) ≡ length sketches
    unfolding with_row
    length-with-row = length-splice sketches (p * m) m x inside long

    pub row_same : row_of m (with_row m sketches p x) p ≡ x
    unfolding with_row row_of
    row_same = splice_at sketches (p * m) m x inside long

    pub row_other : (r : ℕ) → r ≢ p → row_of m (with_row m sketches p x) r ≡ row_of m sketches r
    unfolding with_row row_of
    row_other r h = go (ltb r p) refl
      where
        go : (t : Bool) → ltb r p ≡ t → row_of m (with_row m sketches p x) r ≡ row_of m sketches r
        go true e = splice-before sketches (p * m) m x inside long (r * m) m (rows_apart m (ltb-true r p e))
        go false e =
            let later : p < r = omega (arith, ltb-false r p e) in
            ap (take m) (splice-behind sketches (p * m) m x inside long (r * m) (rows_apart m later))
