-- Laws of a sum over the pairs of two lists: distances of sketches and of packings are such sums.
use Prim.Native.Nat.{ℕ, zero, suc, ◌+◌, ◌*◌, ◌≤◌, ◌<◌}
use native.Mathlib.Omega.{arith}
use native.Mathlib.Nat.{not-suc-le-zero}
use mathlib.Core.Path.{◌≡◌, refl, ap₂}
use mathlib.Core.List.{List, [], ◌∷◌, ◌++◌}
use lib.ListN.{length, get_or, take, drop}
use lib.Seq.{drop-cons}
use Rattle.sketch_laws.specs.Packed.{sum_pairs}

module _ (f : ℕ → ℕ → ℕ) where
  pairs-nil : (xs : List ℕ) → sum_pairs f xs [] ≡ 0
  unfolding sum_pairs
  pairs-nil [] = refl
  pairs-nil (x ∷ xs) = refl

  pub pairs-append : (xs ys us vs : List ℕ) → length xs ≡ length ys → sum_pairs f (xs ++ us) (ys ++ vs) ≡ sum_pairs f xs ys + sum_pairs f us vs
  unfolding sum_pairs
  pairs-append [] [] us vs e = omega arith
  pairs-append [] (y ∷ ys) us vs e = absurd (omega arith)
  pairs-append (x ∷ xs) [] us vs e = absurd (omega arith)
  pairs-append (x ∷ xs) (y ∷ ys) us vs e = omega (arith, pairs-append xs ys us vs (omega arith))

  pub pairs-split : (n : ℕ) (xs ys : List ℕ) → sum_pairs f xs ys ≡ sum_pairs f (take n xs) (take n ys) + sum_pairs f (drop n xs) (drop n ys)
  unfolding sum_pairs
  pairs-split zero xs ys = omega arith
  pairs-split (suc n) [] ys = omega arith
  pairs-split (suc n) (x ∷ xs) [] = omega (arith, pairs-nil (drop n xs))
  pairs-split (suc n) (x ∷ xs) (y ∷ ys) = omega (arith, pairs-split n xs ys)

  pub pairs-take : (n : ℕ) (xs ys : List ℕ) → sum_pairs f (take n xs) (take n ys) ≤ sum_pairs f xs ys
  pairs-take n xs ys = omega (arith, pairs-split n xs ys)

  pub pairs-suc : (n : ℕ) (xs ys : List ℕ) → n < length xs → n < length ys
      → sum_pairs f (take (suc n) xs) (take (suc n) ys) ≡ sum_pairs f (take n xs) (take n ys) + f (get_or xs n 0) (get_or ys n 0)
  unfolding sum_pairs
  pairs-suc n [] ys h k = absurd (not-suc-le-zero h)
  pairs-suc n (x ∷ xs) [] h k = absurd (not-suc-le-zero k)
  pairs-suc zero (x ∷ xs) (y ∷ ys) h k = omega arith
  pairs-suc (suc n) (x ∷ xs) (y ∷ ys) h k = omega (arith, pairs-suc n xs ys (omega arith) (omega arith))

  pub pairs-drop : (n : ℕ) (xs ys : List ℕ) → n < length xs → n < length ys
      → sum_pairs f (drop n xs) (drop n ys) ≡ f (get_or xs n 0) (get_or ys n 0) + sum_pairs f (drop (suc n) xs) (drop (suc n) ys)
  unfolding sum_pairs
  pairs-drop n xs ys h k = rw (drop-cons xs n 0 h, drop-cons ys n 0 k)

  pub pairs-comm : ((x y : ℕ) → f x y ≡ f y x) → (xs ys : List ℕ) → sum_pairs f xs ys ≡ sum_pairs f ys xs
  unfolding sum_pairs
  pairs-comm h [] [] = refl
  pairs-comm h [] (y ∷ ys) = refl
  pairs-comm h (x ∷ xs) [] = refl
  pairs-comm h (x ∷ xs) (y ∷ ys) = ap₂ (λ (a b : ℕ). a + b) (h x y) (pairs-comm h xs ys)

  pub pairs-self : ((x : ℕ) → f x x ≡ 0) → (xs : List ℕ) → sum_pairs f xs xs ≡ 0
  unfolding sum_pairs
  pairs-self h [] = refl
  pairs-self h (x ∷ xs) = omega (arith, h x, pairs-self h xs)

  pub pairs-le : (c : ℕ) → ((x y : ℕ) → f x y ≤ c) → (xs ys : List ℕ) → sum_pairs f xs ys ≤ length xs * c
  unfolding sum_pairs
  pairs-le c h [] ys = omega arith
  pairs-le c h (x ∷ xs) [] = omega arith
  pairs-le c h (x ∷ xs) (y ∷ ys) = omega (arith, h x y, pairs-le c h xs ys)
