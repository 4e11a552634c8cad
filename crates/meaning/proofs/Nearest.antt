-- Laws of `keep`, `grouped` and `nearest`: they rearrange what they are given, nearer elements above, and go by the distances alone.
use Prim.Native.Nat.{ℕ, zero, suc, ◌+◌, ◌≤◌, ◌<◌}
use native.Mathlib.Omega.{arith}
use mathlib.Core.Path.{◌≡◌, refl, sym, ap, ◌∙◌}
use mathlib.Core.Bool.{Bool, true, false, cond, ◌&&◌, ◌||◌}
use mathlib.Core.Logic.{◌≢◌}
use mathlib.Core.List.{List, [], ◌∷◌, ◌++◌, map, map-append, map-map, map-id}
use lib.Dec.{ltb, leb, eqb}
use lib.ListN.{length}
use borrow.Author.Tests.{eqb-true, eqb-false, ltb-true, leb-true, eq-eqb, ne_eqb, lt-ltb}
use Rattle.meaning.specs.Lists.{all, keep, count, ordered, grouped, from, upto}
use Rattle.meaning.specs.Output.{nearest, listing}
use Rattle.meaning.proofs.Lists.{and_intro, and_first, and_second, or-first, or-second, all_append, count-append, count-every}

-- ---- kept elements
module _ {A : Type 0} where
  -- what all pass, the kept ones pass
  pub all_keep : (p q : A → Bool) (xs : List A) → all p xs ≡ true → all p (keep q xs) ≡ true
  unfolding all keep
  all_keep p q [] h = refl
  all_keep p q (x ∷ xs) h = go (q x) (all_keep p q xs (and_second (p x) (all p xs) h))
    where
      go : (t : Bool) → all p (keep q xs) ≡ true → all p (cond t (x ∷ keep q xs) (keep q xs)) ≡ true
      go true ih = and_intro (p x) (all p (keep q xs)) (and_first (p x) (all p xs) h) ih
      go false ih = ih

  -- the kept ones pass what they are kept for
  pub keep_all : (p q : A → Bool) → ((x : A) → q x ≡ true → p x ≡ true) → (xs : List A) → all p (keep q xs) ≡ true
  unfolding all keep
  keep_all p q h [] = refl
  keep_all p q h (x ∷ xs) = go (q x) refl (keep_all p q h xs)
    where
      go : (t : Bool) → q x ≡ t → all p (keep q xs) ≡ true → all p (cond t (x ∷ keep q xs) (keep q xs)) ≡ true
      go true e ih = and_intro (p x) (all p (keep q xs)) (h x e) ih
      go false e ih = ih

  all_pass : (p q : A → Bool) → ((x : A) → p x ≡ true → q x ≡ true) → (xs : List A) → all p xs ≡ true → all q xs ≡ true
  unfolding all
  all_pass p q h [] e = refl
  all_pass p q h (x ∷ xs) e =
      and_intro (q x) (all q xs) (h x (and_first (p x) (all p xs) e)) (all_pass p q h xs (and_second (p x) (all p xs) e))

-- ---- a rearrangement
module _ {A : Type 0} (q : A → Bool) (f : A → ℕ) where
  keep-cons : (n : ℕ) (x : A) (xs : List A)
      → count q (keep (λ y. eqb (f y) n) (x ∷ xs)) ≡ cond (eqb (f x) n) (cond (q x) 1 0) 0 + count q (keep (λ y. eqb (f y) n) xs)
  unfolding keep count
  keep-cons n x xs = go (eqb (f x) n)
    where
      rest : List A
      rest = keep (λ y. eqb (f y) n) xs

      go : (t : Bool) → count q (cond t (x ∷ rest) rest) ≡ cond t (cond (q x) 1 0) 0 + count q rest
      go true = refl
      go false = omega arith

  -- an element counts once for each time that its number comes
  grouped-cons : (ns : List ℕ) (x : A) (xs : List A)
      → count q (grouped f ns (x ∷ xs)) ≡ cond (q x) (count (λ n. eqb (f x) n) ns) 0 + count q (grouped f ns xs)
  unfolding grouped count
  grouped-cons [] x xs = go (q x)
    where
      go : (t : Bool) → 0 ≡ cond t 0 0 + 0
      go true = omega arith
      go false = omega arith
  grouped-cons (n ∷ ns) x xs =
      rw (
        count-append q (keep (λ y. eqb (f y) n) (x ∷ xs)) (grouped f ns (x ∷ xs)),
        count-append q (keep (λ y. eqb (f y) n) xs) (grouped f ns xs),
        keep-cons n x xs,
        grouped-cons ns x xs,
      )
      (go (q x) (eqb (f x) n) (count (λ m. eqb (f x) m) ns) (count q (keep (λ y. eqb (f y) n) xs)) (count q (grouped f ns xs)))
    where
      go : (s t : Bool) (c a b : ℕ) → cond t (cond s 1 0) 0 + a + (cond s c 0 + b) ≡ cond s (cond t 1 0 + c) 0 + (a + b)
      go true true c a b = omega arith
      go true false c a b = omega arith
      go false true c a b = omega arith
      go false false c a b = omega arith

-- a number comes once among those from k on
past : (i k n : ℕ) → i < k → count (λ m. eqb i m) (from k n) ≡ 0
unfolding count from
past i k zero h = refl
past i k (suc n) h = rw (ne_eqb i k (omega arith), past i (suc k) n (omega arith)) (omega arith)

comes-once : (i k n : ℕ) → k ≤ i → i < k + n → count (λ m. eqb i m) (from k n) ≡ 1
unfolding count from
comes-once i k zero l u = absurd (omega arith)
comes-once i k (suc n) l u = go (eqb i k) refl (λ ne. comes-once i (suc k) n (omega arith) (omega arith))
  where
    go : (t : Bool) → eqb i k ≡ t → (i ≢ k → count (λ m. eqb i m) (from (suc k) n) ≡ 1) → cond t 1 0 + count (λ m. eqb i m) (from (suc k) n) ≡ 1
    go true e ih = rw (past i (suc k) n (omega (arith, eqb-true i k e))) (omega arith)
    go false e ih = rw (ih (eqb-false i k e)) (omega arith)

module _ {A : Type 0} where
  grouped-none : (f : A → ℕ) (ns : List ℕ) → grouped f ns [] ≡ []
  unfolding grouped keep
  grouped-none f [] = refl
  grouped-none f (n ∷ ns) = grouped-none f ns

  -- each element as often as it was there
  pub count-nearest : (q : A → Bool) (f : A → ℕ) (radius : ℕ) (xs : List A) → all (λ x. leb (f x) radius) xs ≡ true
      → count q (nearest f radius xs) ≡ count q xs
  unfolding nearest upto count all
  count-nearest q f radius [] h = ap (count q) (grouped-none f (from 0 (suc radius)))
  count-nearest q f radius (x ∷ xs) h =
      rw (
        grouped-cons q f (from 0 (suc radius)) x xs,
        comes-once (f x) 0 (suc radius) (omega arith) (omega (arith, leb-true (f x) radius (and_first (leb (f x) radius) (all (λ y. leb (f y) radius) xs) h))),
        count-nearest q f radius xs (and_second (leb (f x) radius) (all (λ y. leb (f y) radius) xs) h),
      )

  pub length-nearest : (f : A → ℕ) (radius : ℕ) (xs : List A) → all (λ x. leb (f x) radius) xs ≡ true → length (nearest f radius xs) ≡ length xs
  length-nearest f radius xs h = sym (count-every (nearest f radius xs)) ∙ count-nearest (λ x. true) f radius xs h ∙ count-every xs

-- ---- nearer elements above
module _ {A : Type 0} where
  ordered-append : (over : A → A → Bool) (xs ys : List A) → ordered over xs ≡ true → ordered over ys ≡ true
      → all (λ x. all (over x) ys) xs ≡ true → ordered over (xs ++ ys) ≡ true
  unfolding ordered all
  ordered-append over [] ys a b h = b
  ordered-append over (x ∷ xs) ys a b h =
      rw (all_append (over x) xs ys, and_first (all (over x) xs) (ordered over xs) a, and_first (all (over x) ys) _ h)
      (ordered-append over xs ys (and_second (all (over x) xs) (ordered over xs) a) b (and_second (all (over x) ys) _ h))

module _ {A : Type 0} (f : A → ℕ) (over : A → A → Bool) where
  -- nearer, or as far and over it
  abbrev nearer : A → A → Bool
  nearer x y = ltb (f x) (f y) || (eqb (f x) (f y) && over x y)

  -- those of one distance stay in their order
  as-far : (x : A) (n : ℕ) → f x ≡ n → (ys : List A) → all (over x) ys ≡ true → all (nearer x) (keep (λ y. eqb (f y) n) ys) ≡ true
  unfolding all keep
  as-far x n e [] h = refl
  as-far x n e (y ∷ ys) h = go (eqb (f y) n) refl (as-far x n e ys (and_second (over x y) (all (over x) ys) h))
    where
      rest : List A
      rest = keep (λ z. eqb (f z) n) ys

      go : (t : Bool) → eqb (f y) n ≡ t → all (nearer x) rest ≡ true → all (nearer x) (cond t (y ∷ rest) rest) ≡ true
      go true q ih =
          let same : f x ≡ f y = e ∙ sym (eqb-true (f y) n q) in
          and_intro (nearer x y) (all (nearer x) rest)
          (or-second (ltb (f x) (f y)) _ (and_intro (eqb (f x) (f y)) (over x y) (eq-eqb (f x) (f y) same) (and_first (over x y) (all (over x) ys) h))) ih
      go false q ih = ih

  ordered-keep : (n : ℕ) (xs : List A) → ordered over xs ≡ true → ordered nearer (keep (λ x. eqb (f x) n) xs) ≡ true
  unfolding ordered keep
  ordered-keep n [] h = refl
  ordered-keep n (x ∷ xs) h = go (eqb (f x) n) refl (ordered-keep n xs (and_second (all (over x) xs) (ordered over xs) h))
    where
      rest : List A
      rest = keep (λ y. eqb (f y) n) xs

      go : (t : Bool) → eqb (f x) n ≡ t → ordered nearer rest ≡ true → ordered nearer (cond t (x ∷ rest) rest) ≡ true
      go true e ih =
          and_intro (all (nearer x) rest) (ordered nearer rest)
          (as-far x n (eqb-true (f x) n e) xs (and_first (all (over x) xs) (ordered over xs) h)) ih
      go false e ih = ih

  -- those of the later distances are farther
  farther : (d k n : ℕ) (xs : List A) → d < k → all (λ x. ltb d (f x)) (grouped f (from k n) xs) ≡ true
  unfolding all grouped from
  farther d k zero xs h = refl
  farther d k (suc n) xs h =
      all_append (λ x. ltb d (f x)) (keep (λ x. eqb (f x) k) xs) (grouped f (from (suc k) n) xs)
      ∙ and_intro _ (all (λ x. ltb d (f x)) (grouped f (from (suc k) n) xs))
      (keep_all (λ x. ltb d (f x)) (λ x. eqb (f x) k) (λ x e. lt-ltb d (f x) (omega (arith, eqb-true (f x) k e))) xs)
      (farther d (suc k) n xs (omega arith))

  ordered-grouped : (k n : ℕ) (xs : List A) → ordered over xs ≡ true → ordered nearer (grouped f (from k n) xs) ≡ true
  unfolding ordered grouped from
  ordered-grouped k zero xs h = refl
  ordered-grouped k (suc n) xs h =
      ordered-append nearer (keep (λ x. eqb (f x) k) xs) later (ordered-keep k xs h) (ordered-grouped (suc k) n xs h)
      (keep_all (λ x. all (nearer x) later) (λ x. eqb (f x) k) (λ x e.
      all_pass (λ y. ltb k (f y)) (nearer x) (λ y l.
      or-first (ltb (f x) (f y)) _ (lt-ltb (f x) (f y) (omega (arith, eqb-true (f x) k e, ltb-true k (f y) l)))) later
      (farther k (suc k) n xs (omega arith))) xs)
    where
      later : List A
      later = grouped f (from (suc k) n) xs

  pub ordered-nearest : (radius : ℕ) (xs : List A) → ordered over xs ≡ true → ordered nearer (nearest f radius xs) ≡ true
  unfolding nearest upto
  ordered-nearest radius xs h = ordered-grouped 0 (suc radius) xs h

-- ---- by the distances alone
module _ {A : Type 0} (f g : A → ℕ) where
  keep_same : (n : ℕ) (xs : List A) → all (λ x. eqb (f x) (g x)) xs ≡ true → keep (λ x. eqb (f x) n) xs ≡ keep (λ x. eqb (g x) n) xs
  unfolding all keep
  keep_same n [] h = refl
  keep_same n (x ∷ xs) h =
      rw (eqb-true (f x) (g x) (and_first (eqb (f x) (g x)) _ h), keep_same n xs (and_second (eqb (f x) (g x)) _ h))

  grouped-same : (ns : List ℕ) (xs : List A) → all (λ x. eqb (f x) (g x)) xs ≡ true → grouped f ns xs ≡ grouped g ns xs
  unfolding grouped
  grouped-same [] xs h = refl
  grouped-same (n ∷ ns) xs h = rw (keep_same n xs h, grouped-same ns xs h)

  map_same : (xs : List A) → all (λ x. eqb (f x) (g x)) xs ≡ true → map f xs ≡ map g xs
  unfolding all
  map_same [] h = refl
  map_same (x ∷ xs) h = rw (eqb-true (f x) (g x) (and_first (eqb (f x) (g x)) _ h), map_same xs (and_second (eqb (f x) (g x)) _ h))

  all-grouped : (p : A → Bool) (ns : List ℕ) (xs : List A) → all p xs ≡ true → all p (grouped f ns xs) ≡ true
  unfolding all grouped
  all-grouped p [] xs h = refl
  all-grouped p (n ∷ ns) xs h =
      all_append p (keep (λ x. eqb (f x) n) xs) (grouped f ns xs)
      ∙ and_intro _ (all p (grouped f ns xs)) (all_keep p (λ x. eqb (f x) n) xs h) (all-grouped p ns xs h)

  -- distances that are the same on all that are listed
  listing-same : (page : A → ℕ) (radius : ℕ) (xs : List A) → all (λ x. eqb (f x) (g x)) xs ≡ true → listing page f radius xs ≡ listing page g radius xs
  unfolding listing nearest
  listing-same page radius xs h =
      rw (
        map_same (nearest f radius xs) (all-grouped (λ x. eqb (f x) (g x)) (upto (suc radius)) xs h),
        grouped-same (upto (suc radius)) xs h,
      )

module _ {A B : Type 0} (h : A → B) where
  map-keep : (p : B → Bool) (xs : List A) → map h (keep (λ x. p (h x)) xs) ≡ keep p (map h xs)
  unfolding keep
  map-keep p [] = refl
  map-keep p (x ∷ xs) = go (p (h x)) (map-keep p xs)
    where
      go : (t : Bool) → map h (keep (λ y. p (h y)) xs) ≡ keep p (map h xs)
          → map h (cond t (x ∷ keep (λ y. p (h y)) xs) (keep (λ y. p (h y)) xs)) ≡ cond t (h x ∷ keep p (map h xs)) (keep p (map h xs))
      go true e = rw e
      go false e = e

  map-grouped : (f : B → ℕ) (ns : List ℕ) (xs : List A) → map h (grouped (λ x. f (h x)) ns xs) ≡ grouped f ns (map h xs)
  unfolding grouped
  map-grouped f [] xs = refl
  map-grouped f (n ∷ ns) xs =
      map-append h (keep (λ x. eqb (f (h x)) n) xs) (grouped (λ x. f (h x)) ns xs)
      ∙ rw (map-keep (λ y. eqb (f y) n) xs, map-grouped f ns xs)

  all_of : (p : B → Bool) (xs : List A) → all p (map h xs) ≡ all (λ x. p (h x)) xs
  unfolding all
  all_of p [] = refl
  all_of p (x ∷ xs) = rw (all_of p xs)

  pub ordered-map : (over : B → B → Bool) (xs : List A) → ordered over (map h xs) ≡ ordered (λ x y. over (h x) (h y)) xs
  unfolding ordered
  ordered-map over [] = refl
  ordered-map over (x ∷ xs) = rw (all_of (over (h x)) xs, ordered-map over xs)

-- elements that are as far as their page numbers say are listed as these numbers would be
pub listing-pages : {A : Type 0} (page far : A → ℕ) (h : ℕ → ℕ) (radius : ℕ) (xs : List A) → all (λ x. eqb (far x) (h (page x))) xs ≡ true
    → listing page far radius xs ≡ listing (λ p. p) h radius (map page xs)
unfolding listing nearest
listing-pages page far h radius xs e =
    listing-same far (λ x. h (page x)) page radius xs e
    ∙ rw (
      ← map-map h page (grouped (λ x. h (page x)) (upto (suc radius)) xs),
      map-grouped page h (upto (suc radius)) xs,
      map-id (grouped h (upto (suc radius)) (map page xs)),
    )
