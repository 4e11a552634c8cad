-- Tests of two parts; laws of `all`, `any`, `keep`, `count`, `onto` and `sum`, and of the numbers k, k + 1, ..
use Prim.Native.Nat.{ℕ, zero, suc, ◌+◌, ◌≤◌, ◌<◌}
use native.Mathlib.Omega.{arith}
use mathlib.Core.Path.{◌≡◌, refl, sym, ap, ◌∙◌}
use mathlib.Core.Bool.{Bool, true, false, cond, ◌&&◌, ◌||◌, and_assoc, and-true, or_assoc, false≢true}
use mathlib.Core.List.{List, [], ◌∷◌, ◌++◌, map}
use lib.Dec.{eqb}
use lib.ListN.{length, get_or, drop, length-append, length-drop, length-map}
use borrow.Author.Tests.{eqb-true, eqb-false, eq-eqb, ne_eqb}
use Rattle.meaning.specs.Lists.{all, any, keep, count, onto, from, upto, sum}

pub not_so : (t : Bool) → (t ≡ true → ⊥) → t ≡ false
not_so true h = absurd (h refl)
not_so false h = refl

pub eqb_comm : (a b : ℕ) → eqb a b ≡ eqb b a
eqb_comm a b = go (eqb a b) refl
  where
    go : (t : Bool) → eqb a b ≡ t → t ≡ eqb b a
    go true e = sym (eq-eqb b a (sym (eqb-true a b e)))
    go false e = sym (ne_eqb b a (λ q. eqb-false a b e (sym q)))

-- ---- a test of two parts
pub and_intro : (s t : Bool) → s ≡ true → t ≡ true → s && t ≡ true
and_intro true t h k = k
and_intro false t h k = absurd (false≢true h)

pub and_first : (s t : Bool) → s && t ≡ true → s ≡ true
and_first true t h = refl
and_first false t h = absurd (false≢true h)

pub and_second : (s t : Bool) → s && t ≡ true → t ≡ true
and_second true t h = h
and_second false t h = absurd (false≢true h)

pub or-first : (s t : Bool) → s ≡ true → s || t ≡ true
or-first true t h = refl
or-first false t h = absurd (false≢true h)

pub or-second : (s t : Bool) → t ≡ true → s || t ≡ true
or-second true t h = refl
or-second false t h = h

-- ---- appended lists
module _ {A : Type 0} (p : A → Bool) where
  pub all_append : (xs ys : List A) → all p (xs ++ ys) ≡ all p xs && all p ys
  unfolding all
  all_append [] ys = refl
  all_append (x ∷ xs) ys = ap (λ (t : Bool). p x && t) (all_append xs ys) ∙ sym (and_assoc (p x) (all p xs) (all p ys))

  pub any_append : (xs ys : List A) → any p (xs ++ ys) ≡ any p xs || any p ys
  unfolding any
  any_append [] ys = refl
  any_append (x ∷ xs) ys = ap (λ (t : Bool). p x || t) (any_append xs ys) ∙ sym (or_assoc (p x) (any p xs) (any p ys))

  pub count-append : (xs ys : List A) → count p (xs ++ ys) ≡ count p xs + count p ys
  unfolding count
  count-append [] ys = omega arith
  count-append (x ∷ xs) ys = omega (arith, count-append xs ys)

  pub count-le : (xs : List A) → count p xs ≤ length xs
  unfolding count
  count-le [] = omega arith
  count-le (x ∷ xs) = go (p x) (count-le xs)
    where
      go : (t : Bool) → count p xs ≤ length xs → cond t 1 0 + count p xs ≤ suc (length xs)
      go true h = omega arith
      go false h = omega arith

  pub length-keep : (xs : List A) → length (keep p xs) ≡ count p xs
  unfolding keep count
  length-keep [] = refl
  length-keep (x ∷ xs) = go (p x) (length-keep xs)
    where
      go : (t : Bool) → length (keep p xs) ≡ count p xs → length (cond t (x ∷ keep p xs) (keep p xs)) ≡ cond t 1 0 + count p xs
      go true h = omega arith
      go false h = omega arith

  pub keep_append : (xs ys : List A) → keep p (xs ++ ys) ≡ keep p xs ++ keep p ys
  unfolding keep
  keep_append [] ys = refl
  keep_append (x ∷ xs) ys = rw (keep_append xs ys) (go (p x))
    where
      go : (t : Bool) → cond t (x ∷ (keep p xs ++ keep p ys)) (keep p xs ++ keep p ys) ≡ cond t (x ∷ keep p xs) (keep p xs) ++ keep p ys
      go true = refl
      go false = refl

-- all of them
pub count-every : {A : Type 0} (xs : List A) → count (λ x. true) xs ≡ length xs
unfolding count
count-every [] = refl
count-every (x ∷ xs) = omega (arith, count-every xs)

pub sum-append : (xs ys : List ℕ) → sum (xs ++ ys) ≡ sum xs + sum ys
unfolding sum
sum-append [] ys = omega arith
sum-append (x ∷ xs) ys = omega (arith, sum-append xs ys)

pub length-onto : (xs table : List ℕ) → length xs ≤ length table → length (onto xs table) ≡ length table
unfolding onto
length-onto xs table h = omega (arith, length-append xs (drop (length xs) table), length-drop (length xs) table)

-- ---- the members of a list

-- what holds of each member holds of all
pub each_all : (q : ℕ → Bool) (xs : List ℕ) → ((x : ℕ) → any (eqb x) xs ≡ true → q x ≡ true) → all q xs ≡ true
unfolding all any
each_all q [] h = refl
each_all q (x ∷ xs) h =
    and_intro (q x) (all q xs) (h x (or-first (eqb x x) (any (eqb x) xs) (eq-eqb x x refl)))
    (each_all q xs (λ y m. h y (or-second (eqb y x) (any (eqb y) xs) m)))

-- and the other way round
pub all-each : (q : ℕ → Bool) (xs : List ℕ) → all q xs ≡ true → (x : ℕ) → any (eqb x) xs ≡ true → q x ≡ true
unfolding all any
all-each q [] h x m = absurd (false≢true m)
all-each q (y ∷ ys) h x m = go (eqb x y) refl (all-each q ys (and_second (q y) (all q ys) h) x)
  where
    go : (t : Bool) → eqb x y ≡ t → (any (eqb x) ys ≡ true → q x ≡ true) → q x ≡ true
    go true e later = rw (eqb-true x y e) (and_first (q y) (all q ys) h)
    go false e later = later (rw e at m)

-- ---- n numbers from k on
pub length_from : (k n : ℕ) → length (from k n) ≡ n
unfolding from
length_from k zero = refl
length_from k (suc n) = ap suc (length_from (suc k) n)

pub length-upto : (n : ℕ) → length (upto n) ≡ n
unfolding upto
length-upto n = length_from 0 n

from_suc : (k n : ℕ) → from k (suc n) ≡ from k n ++ ((k + n) ∷ [])
unfolding from
from_suc k zero = ap (λ (i : ℕ). i ∷ []) (omega arith)
from_suc k (suc n) =
    ap (λ (l : List ℕ). k ∷ l) (from_suc (suc k) n ∙ ap (λ (i : ℕ). from (suc k) n ++ (i ∷ [])) (omega arith))

pub upto-suc : (n : ℕ) → upto (suc n) ≡ upto n ++ (n ∷ [])
unfolding upto
upto-suc n = from_suc 0 n ∙ ap (λ (i : ℕ). from 0 n ++ (i ∷ [])) (omega arith)

-- a list made by a rule: its length, and what it has at each place
module _ {A : Type 0} (f : ℕ → A) where
  pub length-map-upto : (n : ℕ) → length (map f (upto n)) ≡ n
  length-map-upto n = length-map (upto n) f ∙ length-upto n

  from_at : (k n i : ℕ) (d : A) → i < n → get_or (map f (from k n)) i d ≡ f (k + i)
  unfolding from
  from_at k zero i d h = absurd (omega arith)
  from_at k (suc n) zero d h = ap f (omega arith)
  from_at k (suc n) (suc i) d h = from_at (suc k) n i d (omega arith) ∙ ap f (omega arith)

  pub upto-at : (n i : ℕ) (d : A) → i < n → get_or (map f (upto n)) i d ≡ f i
  unfolding upto
  upto-at n i d h = from_at 0 n i d h ∙ ap f (omega arith)

-- two tests that are the same on them
module _ (f g : ℕ → Bool) where
  any-from : (k n : ℕ) → ((i : ℕ) → k ≤ i → i < k + n → f i ≡ g i) → any f (from k n) ≡ any g (from k n)
  unfolding any from
  any-from k zero h = refl
  any-from k (suc n) h = cc (h k (omega arith) (omega arith), any-from (suc k) n (λ i a b. h i (omega arith) (omega arith)))

  pub any-upto : (n : ℕ) → ((i : ℕ) → i < n → f i ≡ g i) → any f (upto n) ≡ any g (upto n)
  unfolding upto
  any-upto n h = any-from 0 n (λ i a b. h i (omega arith))

  pub keep-from : (k n : ℕ) → ((i : ℕ) → k ≤ i → i < k + n → f i ≡ g i) → keep f (from k n) ≡ keep g (from k n)
  unfolding keep from
  keep-from k zero h = refl
  keep-from k (suc n) h = cc (h k (omega arith) (omega arith), keep-from (suc k) n (λ i a b. h i (omega arith) (omega arith)))

module _ (f : ℕ → Bool) where
  -- each of them passes where all do
  all_from : (k n : ℕ) → all f (from k n) ≡ true → (i : ℕ) → k ≤ i → i < k + n → f i ≡ true
  unfolding all from
  all_from k zero h i l u = absurd (omega arith)
  all_from k (suc n) h i l u = go (eqb k i) refl (all_from (suc k) n (and_second (f k) (all f (from (suc k) n)) h) i)
    where
      go : (t : Bool) → eqb k i ≡ t → (suc k ≤ i → i < suc k + n → f i ≡ true) → f i ≡ true
      go true e later = rw (← eqb-true k i e) (and_first (f k) (all f (from (suc k) n)) h)
      go false e later = later (omega (arith, eqb-false k i e)) (omega arith)

  pub upto_all : (n : ℕ) → all f (upto n) ≡ true → (i : ℕ) → i < n → f i ≡ true
  unfolding upto
  upto_all n h i l = all_from 0 n h i (omega arith) (omega arith)

  -- one more
  pub all-suc : (n : ℕ) → all f (upto (suc n)) ≡ all f (upto n) && f n
  unfolding all
  all-suc n =
      ap (all f) (upto-suc n) ∙ all_append f (upto n) (n ∷ []) ∙ ap (λ (t : Bool). all f (upto n) && t) (and-true (f n))

  -- all pass where each does, and not all where one does not
  pub all-upto : (n : ℕ) → ((i : ℕ) → i < n → f i ≡ true) → all f (upto n) ≡ true
  unfolding all upto from
  all-upto zero h = refl
  all-upto (suc n) h = all-suc n ∙ and_intro (all f (upto n)) (f n) (all-upto n (λ i l. h i (omega arith))) (h n (omega arith))

  pub upto-not : (n i : ℕ) → i < n → f i ≡ false → all f (upto n) ≡ false
  upto-not n i h e = not_so (all f (upto n)) (λ a. false≢true (sym e ∙ upto_all n a i h))

  -- some passes where one does, and none where not any does
  any_at : (k n i : ℕ) → k ≤ i → i < k + n → f i ≡ true → any f (from k n) ≡ true
  unfolding any from
  any_at k zero i l u e = absurd (omega arith)
  any_at k (suc n) i l u e = go (eqb k i) refl (λ a b. any_at (suc k) n i a b e)
    where
      go : (t : Bool) → eqb k i ≡ t → (suc k ≤ i → i < suc k + n → any f (from (suc k) n) ≡ true) → f k || any f (from (suc k) n) ≡ true
      go true d later = or-first (f k) (any f (from (suc k) n)) (rw (eqb-true k i d) e)
      go false d later = or-second (f k) (any f (from (suc k) n)) (later (omega (arith, eqb-false k i d)) (omega arith))

  pub upto-none : (n : ℕ) → any f (upto n) ≡ false → (i : ℕ) → i < n → f i ≡ false
  unfolding upto
  upto-none n h i l = not_so (f i) (λ e. false≢true (sym h ∙ any_at 0 n i (omega arith) (omega arith) e))

  -- at most n of them pass
  pub count-upto : (n : ℕ) → count f (upto n) ≤ n
  count-upto n = omega (arith, count-le f (upto n), length-upto n)
