-- Laws of the distance of two sketches.
use Prim.Native.Nat.{ℕ, suc, ◌+◌, ◌≤◌, ◌<◌}
use native.Mathlib.Omega.{arith}
use mathlib.Core.Path.{◌≡◌, refl, ap, fun_ext}
use mathlib.Core.Bool.{Bool, true, false, cond}
use mathlib.Core.List.{List, [], ◌∷◌, ◌++◌}
use lib.Dec.{eqb}
use lib.ListN.{length, get_or, take, drop, length-take}
use borrow.Author.Tests.{eq-eqb}
use Rattle.meaning.specs.Sketch.{distance}
use Rattle.meaning.proofs.Lists.{eqb_comm}
use Rattle.sketch_laws.specs.Packed.{sum_pairs}
use Rattle.sketch_laws.proofs.Pairs.{pairs-append, pairs-split, pairs-take, pairs-suc, pairs-comm, pairs-self, pairs-le}

-- 1 where two symbols differ
abbrev other : ℕ → ℕ → ℕ
other x y = cond (eqb x y) 0 1

same-pairs : (xs ys : List ℕ) → distance xs ys ≡ sum_pairs other xs ys
unfolding distance sum_pairs
same-pairs [] ys = refl
same-pairs (x ∷ xs) [] = refl
same-pairs (x ∷ xs) (y ∷ ys) = ap (λ (n : ℕ). other x y + n) (same-pairs xs ys)

-- the distance is a sum over pairs
as-pairs : distance ≡ sum_pairs other
as-pairs = fun_ext (λ xs. fun_ext (same-pairs xs))

other-le : (x y : ℕ) → other x y ≤ 1
other-le x y = go (eqb x y)
  where
    go : (t : Bool) → cond t 0 1 ≤ 1
    go true = omega arith
    go false = omega arith

pub distance_self : (xs : List ℕ) → distance xs xs ≡ 0
distance_self xs = rw as-pairs (pairs-self other (λ x. rw (eq-eqb x x refl)) xs)

pub distance-comm : (xs ys : List ℕ) → distance xs ys ≡ distance ys xs
distance-comm xs ys = rw as-pairs (pairs-comm other (λ x y. rw (eqb_comm x y)) xs ys)

pub distance-le : (xs ys : List ℕ) → distance xs ys ≤ length xs
distance-le xs ys = rw as-pairs (omega (arith, pairs-le other 1 other-le xs ys))

pub distance-append : (xs ys us vs : List ℕ) → length xs ≡ length ys
    → distance (xs ++ us) (ys ++ vs) ≡ distance xs ys + distance us vs
distance-append xs ys us vs e = rw as-pairs (pairs-append other xs ys us vs e)

pub distance-split : (n : ℕ) (xs ys : List ℕ)
    → distance xs ys ≡ distance (take n xs) (take n ys) + distance (drop n xs) (drop n ys)
distance-split n xs ys = rw as-pairs (pairs-split other n xs ys)

pub distance-take : (n : ℕ) (xs ys : List ℕ) → distance (take n xs) (take n ys) ≤ distance xs ys
distance-take n xs ys = rw as-pairs (pairs-take other n xs ys)

pub distance-first : (n : ℕ) (xs ys : List ℕ) → distance (take n xs) (take n ys) ≤ n
distance-first n xs ys = omega (arith, distance-le (take n xs) (take n ys), length-take n xs)

-- one place more
pub distance-suc : (n : ℕ) (xs ys : List ℕ) → n < length xs → n < length ys
    → distance (take (suc n) xs) (take (suc n) ys) ≡ distance (take n xs) (take n ys) + cond (eqb (get_or xs n 0) (get_or ys n 0)) 0 1
distance-suc n xs ys h k = rw as-pairs (pairs-suc other n xs ys h k)
