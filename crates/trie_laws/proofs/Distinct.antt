-- Laws of the number of different bytes.
use Prim.Native.Nat.{ℕ, zero, suc, ◌+◌, ◌≤◌, ◌<◌}
use native.Mathlib.Omega.{arith}
use mathlib.Core.Path.{◌≡◌, refl, sym, ap}
use mathlib.Core.Bool.{Bool, true, false, cond, not, ◌&&◌, ◌||◌, and-true, and-false}
use mathlib.Core.List.{List, [], ◌∷◌}
use lib.Dec.{ltb, eqb}
use lib.ListN.{length}
use borrow.Author.Tests.{ltb-true, eqb-true, eq-eqb, ne_eqb}
use Rattle.meaning.specs.Lists.{all, any, count, from, upto}
use Rattle.trie_laws.specs.Needed.{distinct_from, distinct}
use Rattle.meaning.proofs.Lists.{and_first, and_second, or-first, or-second, count-upto}
use Rattle.trie_laws.proofs.Lists.{less, same, more, compared, holds, fails, truth, count_none}

-- only what was seen of the list's own bytes counts
pub distinct-agree : (s r : ℕ → Bool) (xs : List ℕ) → ((y : ℕ) → any (eqb y) xs ≡ true → s y ≡ r y) → distinct_from s xs ≡ distinct_from r xs
unfolding distinct_from any
distinct-agree s r [] h = refl
distinct-agree s r (x ∷ xs) h =
    let e : s x ≡ r x = h x (or-first (eqb x x) (any (eqb x) xs) (eq-eqb x x refl)) in
    let more : distinct_from (λ y. eqb y x || s y) xs ≡ distinct_from (λ y. eqb y x || r y) xs =
    distinct-agree (λ y. eqb y x || s y) (λ y. eqb y x || r y) xs
    (λ y m. ap (λ (q : Bool). eqb y x || q) (h y (or-second (eqb y x) (any (eqb y) xs) m))) in
    rw (e, more) refl

pub distinct-length : (s : ℕ → Bool) (xs : List ℕ) → distinct_from s xs ≤ length xs
unfolding distinct_from
distinct-length s [] = omega arith
distinct-length s (x ∷ xs) =
    let h : distinct_from (λ y. eqb y x || s y) xs ≤ length xs = distinct-length (λ y. eqb y x || s y) xs in
    elim (truth (s x)) [
      | holds e ↦ rw e (omega arith)
      | fails e ↦ rw e (omega arith)
    ]

-- where no number comes twice, nor was seen, all are different
pub distinct-once : (s : ℕ → Bool) (xs : List ℕ) → ((y : ℕ) → count (eqb y) xs + cond (s y) 1 0 ≤ 1) → distinct_from s xs ≡ length xs
unfolding distinct_from count
distinct-once s [] h = refl
distinct-once s (x ∷ xs) h =
    let g : 1 + count (eqb x) xs + cond (s x) 1 0 ≤ 1 = rw (eq-eqb x x refl) at (h x) in
    let more = distinct-once (λ y. eqb y x || s y) xs (λ y. later y g (h y)) in
    elim (truth (s x)) [
      | holds e ↦ absurd (omega (arith, rw e at g))
      | fails e ↦ rw e (omega (arith, more))
    ]
  where
    later : (y : ℕ) → 1 + count (eqb x) xs + cond (s x) 1 0 ≤ 1 → cond (eqb y x) 1 0 + count (eqb y) xs + cond (s y) 1 0 ≤ 1 →
        count (eqb y) xs + cond (eqb y x || s y) 1 0 ≤ 1
    later y g h = elim (truth (eqb y x)) [
      | holds e ↦ rw (e, eqb-true y x e) (omega arith)
      | fails e ↦ rw e (omega (arith, rw e at h))
    ]

-- one page has one byte
pub distinct-one : (bytes_of : ℕ → List ℕ) (k p : ℕ) → distinct bytes_of k (p ∷ []) ≡ 1
unfolding distinct distinct_from
distinct-one bytes_of k p = refl

-- ---- the bytes below m that occur, counted one by one
count-split : (f g h : ℕ → Bool) (xs : List ℕ) → ((y : ℕ) → cond (f y) 1 0 ≡ cond (g y) 1 0 + cond (h y) 1 0) → count f xs ≡ count g xs + count h xs
unfolding count
count-split f g h [] e = refl
count-split f g h (x ∷ xs) e = omega (arith, e x, count-split f g h xs e)

module _ (s : ℕ → Bool) (x : ℕ) where
  past : (j m : ℕ) → x < j → count (λ y. not (s y) && eqb y x) (from j m) ≡ 0
  unfolding count from
  past j zero l = refl
  past j (suc m) l = rw (ne_eqb j x (omega arith), and-false (not (s j))) (omega (arith, past (suc j) m (omega arith)))

  single : (j m : ℕ) → j ≤ x → x < j + m → count (λ y. not (s y) && eqb y x) (from j m) ≡ cond (s x) 0 1
  unfolding count from
  single j zero l u = absurd (omega arith)
  single j (suc m) l u = elim (compared j x) [
    | less h t ↦ rw (t.eq, and-false (not (s j))) (omega (arith, single (suc j) m h (omega arith)))
    | same h t ↦ rw (t.eq, and-true (not (s j)), past (suc j) m (omega arith), h) (here (s x))
    | more h t ↦ absurd (omega arith)
  ]
    where
      here : (q : Bool) → cond (not q) 1 0 + 0 ≡ cond q 0 1
      here true = refl
      here false = refl

pub distinct-count : (m : ℕ) (s : ℕ → Bool) (xs : List ℕ) → all (λ x. ltb x m) xs ≡ true →
    distinct_from s xs ≡ count (λ y. not (s y) && any (eqb y) xs) (upto m)
unfolding distinct_from all any upto
distinct-count m s [] h = sym (count_none (λ y. not (s y) && false) (from 0 m) (λ y. and-false (not (s y))))
distinct-count m s (x ∷ xs) h =
    let l : x < m = ltb-true x m (and_first (ltb x m) (all (λ y. ltb y m) xs) h) in
    rw (distinct-count m (λ y. eqb y x || s y) xs (and_second (ltb x m) (all (λ y. ltb y m) xs) h), ← (single s x 0 m (omega arith) (omega arith)))
    (sym (count-split (λ y. not (s y) && (eqb y x || any (eqb y) xs)) (λ y. not (s y) && eqb y x) (λ y. not (eqb y x || s y) && any (eqb y) xs) (from 0 m)
    (λ y. part (s y) (eqb y x) (any (eqb y) xs))))
  where
    part : (a e b : Bool) → cond (not a && (e || b)) 1 0 ≡ cond (not a && e) 1 0 + cond (not (e || a) && b) 1 0
    part true true b = refl
    part true false b = refl
    part false true b = refl
    part false false true = refl
    part false false false = refl

pub distinct-below : (m : ℕ) (s : ℕ → Bool) (xs : List ℕ) → all (λ x. ltb x m) xs ≡ true → distinct_from s xs ≤ m
distinct-below m s xs h = rw (distinct-count m s xs h) (count-upto (λ y. not (s y) && any (eqb y) xs) m)
