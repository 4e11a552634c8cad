-- Tests of two parts, the three orders of two bytes, and laws of `all`, `any` and `count` (crate meaning, Lists.antt).
use Prim.Native.Nat.{ℕ, ◌+◌, ◌≤◌, ◌<◌}
use native.Mathlib.Omega.{arith}
use native.Mathlib.Nat.{zero-add}
use mathlib.Core.Path.{◌≡◌, refl, sym}
use mathlib.Core.Bool.{Bool, true, false, cond, not, ◌&&◌, ◌||◌, true≢false}
use mathlib.Core.List.{List, [], ◌∷◌}
use lib.Dec.{ltb, eqb}
use borrow.Author.Tests.{ltb-true, ltb-false, eqb-true, eqb-false, lt-ltb, le-ltb, eq-eqb, ne_eqb}
use Rattle.meaning.specs.Lists.{all, any, count}
use Rattle.meaning.proofs.Lists.{and_intro, and_first, and_second, or-first, or-second}

pub or-none : (s t : Bool) → s || t ≡ false → (s ≡ false) × (t ≡ false)
or-none true t h = absurd (true≢false h)
or-none false t h = (refl, h)

-- ---- a test and what it gives
pub data Truth (q : Bool) : Type 0 where
  holds : q ≡ true → Truth q
  fails : q ≡ false → Truth q

pub truth : (q : Bool) → Truth q
truth true = holds refl
truth false = fails refl

-- ---- two bytes: in which of three orders they stand, with what the tests then give
pub record Tests (b c : ℕ) (below above equal : Bool) : Type 0 where
  pub lt : ltb b c ≡ below
  pub gt : ltb c b ≡ above
  pub eq : eqb b c ≡ equal
  pub qe : eqb c b ≡ equal

pub data Compared (b c : ℕ) : Type 0 where
  less : b < c → Tests b c true false false → Compared b c
  same : b ≡ c → Tests b c false false true → Compared b c
  more : c < b → Tests b c false true false → Compared b c

pub compared : (b c : ℕ) → Compared b c
compared b c = go (ltb b c) (eqb b c) refl refl
  where
    go : (l e : Bool) → ltb b c ≡ l → eqb b c ≡ e → Compared b c
    go true e p q =
        let h : b < c = ltb-true b c p in
        less h (record { lt = p; gt = le-ltb c b (omega arith); eq = ne_eqb b c (omega arith); qe = ne_eqb c b (omega arith) })
    go false true p q =
        let h : b ≡ c = eqb-true b c q in
        same h (record { lt = p; gt = le-ltb c b (omega arith); eq = q; qe = eq-eqb c b (sym h) })
    go false false p q =
        let h : c ≤ b = ltb-false b c p in
        let n : b ≡ c → ⊥ = eqb-false b c q in
        more (omega arith) (record { lt = p; gt = lt-ltb c b (omega arith); eq = q; qe = ne_eqb c b (omega arith) })

-- ---- lists by counting
module _ {A : Type 0} (p : A → Bool) where
  -- one test by counting
  pub any-count : (xs : List A) → any p xs ≡ ltb 0 (count p xs)
  unfolding any count
  any-count [] = refl
  any-count (x ∷ xs) = go (p x) (any-count xs)
    where
      go : (q : Bool) → any p xs ≡ ltb 0 (count p xs) → q || any p xs ≡ ltb 0 (cond q 1 0 + count p xs)
      go true h = sym (lt-ltb 0 (1 + count p xs) (omega arith))
      go false h = rw (zero-add (count p xs)) h

  pub all-count : (xs : List A) → all p xs ≡ eqb (count (λ x. not (p x)) xs) 0
  unfolding all count
  all-count [] = refl
  all-count (x ∷ xs) = go (p x) (all-count xs)
    where
      go : (q : Bool) → all p xs ≡ eqb (count (λ x. not (p x)) xs) 0 → q && all p xs ≡ eqb (cond (not q) 1 0 + count (λ x. not (p x)) xs) 0
      go true h = rw (zero-add (count (λ x. not (p x)) xs)) h
      go false h = sym (ne_eqb (1 + count (λ x. not (p x)) xs) 0 (omega arith))

  pub count_none : (xs : List A) → ((x : A) → p x ≡ false) → count p xs ≡ 0
  unfolding count
  count_none [] e = refl
  count_none (x ∷ xs) e = rw (e x) (omega (arith, count_none xs e))

  pub any_none : (xs : List A) → any p xs ≡ false → count p xs ≡ 0
  unfolding any count
  any_none [] h = refl
  any_none (x ∷ xs) h =
      let o = or-none (p x) (any p xs) h in
      rw o.0 (omega (arith, any_none xs o.1))

  -- what all pass, all pass that asks less
  pub all_more : (r : A → Bool) (xs : List A) → ((x : A) → p x ≡ true → r x ≡ true) → all p xs ≡ true → all r xs ≡ true
  unfolding all
  all_more r [] e h = refl
  all_more r (x ∷ xs) e h =
      and_intro (r x) (all r xs) (e x (and_first (p x) (all p xs) h)) (all_more r xs e (and_second (p x) (all p xs) h))

  pub all_both : (r : A → Bool) (xs : List A) → all p xs ≡ true → all r xs ≡ true → all (λ x. p x && r x) xs ≡ true
  unfolding all
  all_both r [] h g = refl
  all_both r (x ∷ xs) h g =
      rw (and_first (p x) (all p xs) h, and_first (r x) (all r xs) g) (all_both r xs (and_second (p x) (all p xs) h) (and_second (r x) (all r xs) g))

  pub all_true : (xs : List A) → ((x : A) → p x ≡ true) → all p xs ≡ true
  unfolding all
  all_true [] e = refl
  all_true (x ∷ xs) e = rw (e x) (all_true xs e)

  -- where all pass one test, none passes a test that excludes it
  pub all_any : (r : A → Bool) (xs : List A) → all p xs ≡ true → ((x : A) → p x ≡ true → r x ≡ false) → any r xs ≡ false
  unfolding all any
  all_any r [] h e = refl
  all_any r (x ∷ xs) h e = rw (e x (and_first (p x) (all p xs) h)) (all_any r xs (and_second (p x) (all p xs) h) e)

-- two tests that are the same on each member
pub all-agree : (q r : ℕ → Bool) (xs : List ℕ) → ((x : ℕ) → any (eqb x) xs ≡ true → q x ≡ r x) → all q xs ≡ all r xs
unfolding all any
all-agree q r [] h = refl
all-agree q r (x ∷ xs) h =
    rw (h x (or-first (eqb x x) (any (eqb x) xs) (eq-eqb x x refl)), all-agree q r xs (λ y m. h y (or-second (eqb y x) (any (eqb y) xs) m))) refl
