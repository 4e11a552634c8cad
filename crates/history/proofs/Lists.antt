-- Laws of tests and of lists of numbers, and of the rows of the live pages among a run of page numbers.
use mathlib.Core.Path.{◌≡◌, refl, sym, ap, ◌∙◌, fun_ext}
use mathlib.Core.Bool.{Bool, true, false, cond, ◌&&◌, ◌||◌, not, and-true, or-false, true≢false}
use mathlib.Core.Logic.{◌≢◌}
use mathlib.Core.List.{List, [], ◌∷◌, map}
use Prim.Native.Nat.{ℕ, zero, suc, ◌+◌, ◌≤◌, ◌<◌}
use native.Mathlib.Omega.{arith}
use lib.Dec.{ltb, eqb}
use lib.ListN.{length}
use borrow.Author.Tests.{ltb-true, lt-ltb, le-ltb, eqb-true, eqb-false, eq-eqb, ne_eqb}
use Rattle.meaning.specs.Lists.{all, any, count, keep, from, ordered}
use Rattle.meaning.specs.Ledger.{Row, put_row}
use Rattle.meaning.proofs.Lists.{and_intro, and_first, and_second}
use Rattle.promises.specs.Tables.{rows_from}
use Rattle.history.specs.History.{sketch_in}

-- ---- tests

-- what stands behind && counts only where the first test passes
pub and_then : (a : Bool) {b c : Bool} → (a ≡ true → b ≡ c) → a && b ≡ a && c
and_then true h = h refl
and_then false h = refl

-- what is asked after a test counts only where the test passes
pub asks : (n : ℕ) (t : Bool) {x y : ℕ} → (t ≡ true → x ≡ y) → cond t x n ≡ cond t y n
asks n true h = h refl
asks n false h = refl

-- where the number given is another one, the question passes, and the number is given by those behind it
pub not-by : (n : ℕ) (t : Bool) (x k : ℕ) → k ≢ n → cond t x n ≡ k → (t ≡ true) × (x ≡ k)
not-by n true x k d e = (refl, e)
not-by n false x k d e = absurd (d (sym e))

-- a question that passes with all after it
pub passed : (n : ℕ) (t : Bool) (x : ℕ) → 0 < n → cond t x n ≡ 0 → (t ≡ true) × (x ≡ 0)
passed n t x p = not-by n t x 0 (λ z. absurd (omega arith))

-- ---- numbers in a row

below : (g : ℕ → Bool) (x k n : ℕ) → x < k → all (ltb x) (keep g (from k n)) ≡ true
unfolding all keep from
below g x k zero h = refl
below g x k (suc n) h = go (g k) (below g x (suc k) n (omega arith))
  where
    rest : List ℕ
    rest = keep g (from (suc k) n)

    go : (t : Bool) → all (ltb x) rest ≡ true → all (ltb x) (cond t (k ∷ rest) rest) ≡ true
    go true r = rw (lt-ltb x k h) r
    go false r = r

pub rising-keep : (g : ℕ → Bool) (k n : ℕ) → ordered ltb (keep g (from k n)) ≡ true
unfolding ordered keep from
rising-keep g k zero = refl
rising-keep g k (suc n) = go (g k) (rising-keep g (suc k) n)
  where
    rest : List ℕ
    rest = keep g (from (suc k) n)

    go : (t : Bool) → ordered ltb rest ≡ true → ordered ltb (cond t (k ∷ rest) rest) ≡ true
    go true r = rw (below g k (suc k) n (omega arith)) r
    go false r = r

-- ---- the rows of the live pages among n from k on

-- only the rows of live pages count
rows-cong : (l l' : ℕ → Bool) (h h' : ℕ → Row) (k n : ℕ) → ((i : ℕ) → k ≤ i → i < k + n → l i ≡ l' i)
    → ((i : ℕ) → k ≤ i → i < k + n → l i ≡ true → h i ≡ h' i) → rows_from l h k n ≡ rows_from l' h' k n
unfolding rows_from
rows-cong l l' h h' k zero a b = refl
rows-cong l l' h h' k (suc n) a b =
    rw (← a k (omega arith) (omega arith))
    (go (l k) (b k (omega arith) (omega arith))
    (rows-cong l l' h h' (suc k) n (λ i x y. a i (omega arith) (omega arith)) (λ i x y. b i (omega arith) (omega arith))))
  where
    go : (t : Bool) → (t ≡ true → h k ≡ h' k) → {xs ys : List Row} → xs ≡ ys → cond t (h k ∷ xs) xs ≡ cond t (h' k ∷ ys) ys
    go true e r = let q : h k ≡ h' k = e refl in cc
    go false e r = r

pub rows_upto : (l l' : ℕ → Bool) (h h' : ℕ → Row) (n : ℕ) → ((i : ℕ) → i < n → l i ≡ l' i) → ((i : ℕ) → i < n → l i ≡ true → h i ≡ h' i)
    → rows_from l h 0 n ≡ rows_from l' h' 0 n
rows_upto l l' h h' n a b = rows-cong l l' h h' 0 n (λ i x y. a i (omega arith)) (λ i x y. b i (omega arith))

dead : (h : ℕ → Row) (k n : ℕ) → rows_from (λ i. false) h k n ≡ []
unfolding rows_from
dead h k zero = refl
dead h k (suc n) = dead h (suc k) n

pub rows_none : (l : ℕ → Bool) (h : ℕ → Row) (n : ℕ) → ((i : ℕ) → i < n → l i ≡ false) → rows_from l h 0 n ≡ []
rows_none l h n a = rows_upto l (λ i. false) h h n a (λ i x e. refl) ∙ dead h 0 n

-- as many as there are live pages
pub rows-length : (l : ℕ → Bool) (h : ℕ → Row) (k n : ℕ) → length (rows_from l h k n) ≡ count l (from k n)
unfolding rows_from from count
rows-length l h k zero = refl
rows-length l h k (suc n) = go (l k) (rows-length l h (suc k) n)
  where
    rest : List Row
    rest = rows_from l h (suc k) n

    go : (t : Bool) → length rest ≡ count l (from (suc k) n) → length (cond t (h k ∷ rest) rest) ≡ cond t 1 0 + count l (from (suc k) n)
    go true e = omega (arith, e)
    go false e = omega (arith, e)

-- each row has its own page number
module _ (l : ℕ → Bool) (h : ℕ → Row) (own : (i : ℕ) → (h i).page ≡ i) where
  -- no row of a page below the first
  rows-past : (f : Row → Bool) (p k n : ℕ) → p < k → any (λ r. eqb r.page p && f r) (rows_from l h k n) ≡ false
  unfolding any rows_from
  rows-past f p k zero a = refl
  rows-past f p k (suc n) a = go (l k) (rows-past f p (suc k) n (omega arith))
    where
      rest : List Row
      rest = rows_from l h (suc k) n

      go : (s : Bool) → any (λ r. eqb r.page p && f r) rest ≡ false → any (λ r. eqb r.page p && f r) (cond s (h k ∷ rest) rest) ≡ false
      go true ih = rw (own k, ne_eqb k p (omega arith)) ih
      go false ih = ih

  pub rows-any : (f : Row → Bool) (p k n : ℕ) → k ≤ p → p < k + n → any (λ r. eqb r.page p && f r) (rows_from l h k n) ≡ l p && f (h p)
  unfolding any rows_from
  rows-any f p k zero a b = absurd (omega arith)
  rows-any f p k (suc n) a b = go (eqb k p) refl (l k) refl (λ c. rows-any f p (suc k) n (omega arith) (omega arith))
    where
      rest : List Row
      rest = rows_from l h (suc k) n

      go : (t : Bool) → eqb k p ≡ t → (s : Bool) → l k ≡ s → (k ≢ p → any (λ r. eqb r.page p && f r) rest ≡ l p && f (h p))
          → any (λ r. eqb r.page p && f r) (cond s (h k ∷ rest) rest) ≡ l p && f (h p)
      go true e true m ih =
          let q : eqb (h k).page p ≡ true = ap (λ (i : ℕ). eqb i p) (own k) ∙ e in
          rw (q, rows-past f p (suc k) n (omega (arith, eqb-true k p e)), ← eqb-true k p e, m) (or-false (f (h k)))
      go true e false m ih = rw (rows-past f p (suc k) n (omega (arith, eqb-true k p e)), ← eqb-true k p e, m)
      go false e true m ih = rw (own k, e) (ih (eqb-false k p e))
      go false e false m ih = ih (eqb-false k p e)

  pub rows-live : (p k n : ℕ) → k ≤ p → p < k + n → any (λ r. eqb r.page p) (rows_from l h k n) ≡ l p
  rows-live p k n a b =
      ap (λ (f : Row → Bool). any f (rows_from l h k n)) (fun_ext (λ r. sym (and-true (eqb r.page p)))) ∙ rows-any (λ r. true) p k n a b ∙ and-true (l p)

  -- the sketch of a live page
  pub rows-sketch : (p k n : ℕ) → l p ≡ true → k ≤ p → p < k + n → sketch_in (rows_from l h k n) p ≡ (h p).sketch
  unfolding sketch_in rows_from
  rows-sketch p k zero live a b = absurd (omega arith)
  rows-sketch p k (suc n) live a b = go (eqb k p) refl (l k) refl (λ c. rows-sketch p (suc k) n live (omega arith) (omega arith))
    where
      rest : List Row
      rest = rows_from l h (suc k) n

      go : (t : Bool) → eqb k p ≡ t → (s : Bool) → l k ≡ s → (k ≢ p → sketch_in rest p ≡ (h p).sketch) → sketch_in (cond s (h k ∷ rest) rest) p ≡ (h p).sketch
      go true e true m ih = rw (own k, e) (ap (λ (i : ℕ). (h i).sketch) (eqb-true k p e))
      go true e false m ih = absurd (true≢false (sym live ∙ ap l (sym (eqb-true k p e)) ∙ m))
      go false e true m ih = rw (own k, e) (ih (eqb-false k p e))
      go false e false m ih = ih (eqb-false k p e)

  -- the page numbers of the rows that pass
  pub rows-keep : (f : Row → Bool) (k n : ℕ) → map (λ r. r.page) (keep f (rows_from l h k n)) ≡ keep (λ i. l i && f (h i)) (from k n)
  unfolding keep rows_from from
  rows-keep f k zero = refl
  rows-keep f k (suc n) = go (l k) (f (h k)) refl (rows-keep f (suc k) n)
    where
      rest : List Row
      rest = rows_from l h (suc k) n

      more : List ℕ
      more = keep (λ i. l i && f (h i)) (from (suc k) n)

      go : (s t : Bool) → f (h k) ≡ t → map (λ r. r.page) (keep f rest) ≡ more
          → map (λ r. r.page) (keep f (cond s (h k ∷ rest) rest)) ≡ cond (s && t) (k ∷ more) more
      go true true e ih = rw (e, own k, ih)
      go true false e ih = rw e ih
      go false t e ih = ih

  -- what each row passes
  pub rows_all : (f : Row → Bool) → ((i : ℕ) → f (h i) ≡ true) → (k n : ℕ) → all f (rows_from l h k n) ≡ true
  unfolding all rows_from
  rows_all f e k zero = refl
  rows_all f e k (suc n) = go (l k) (rows_all f e (suc k) n)
    where
      rest : List Row
      rest = rows_from l h (suc k) n

      go : (s : Bool) → all f rest ≡ true → all f (cond s (h k ∷ rest) rest) ≡ true
      go true ih = and_intro (f (h k)) (all f rest) (e k) ih
      go false ih = ih

  -- a row struck out: as where that page is not live
  pub rows-strike : (p k n : ℕ) → keep (λ r. not (eqb r.page p)) (rows_from l h k n) ≡ rows_from (λ i. cond (eqb i p) false (l i)) h k n
  unfolding keep rows_from
  rows-strike p k zero = refl
  rows-strike p k (suc n) = go (l k) (eqb k p) refl (rows-strike p (suc k) n)
    where
      rest : List Row
      rest = rows_from l h (suc k) n

      more : List Row
      more = rows_from (λ i. cond (eqb i p) false (l i)) h (suc k) n

      go : (s t : Bool) → eqb k p ≡ t → keep (λ r. not (eqb r.page p)) rest ≡ more
          → keep (λ r. not (eqb r.page p)) (cond s (h k ∷ rest) rest) ≡ cond (cond t false s) (h k ∷ more) more
      go true true e ih = rw (own k, e) ih
      go true false e ih = rw (own k, e, ih)
      go false true e ih = ih
      go false false e ih = ih

  -- a row whose page is below the first goes in front
  put_low : (r : Row) (k n : ℕ) → r.page < k → put_row r (rows_from l h k n) ≡ r ∷ rows_from l h k n
  unfolding put_row rows_from
  put_low r k zero a = refl
  put_low r k (suc n) a = go (l k) (put_low r (suc k) n (omega arith))
    where
      rest : List Row
      rest = rows_from l h (suc k) n

      go : (s : Bool) → put_row r rest ≡ r ∷ rest → put_row r (cond s (h k ∷ rest) rest) ≡ r ∷ cond s (h k ∷ rest) rest
      go true ih = rw (own k, le-ltb k r.page (omega arith))
      go false ih = ih

  -- a row put in: as where that page is live and has that row
  pub rows-put : (r : Row) → l r.page ≡ false → (k n : ℕ) → k ≤ r.page → r.page < k + n
      → put_row r (rows_from l h k n) ≡ rows_from (λ i. cond (eqb i r.page) true (l i)) (λ i. cond (eqb i r.page) r (h i)) k n
  unfolding put_row rows_from
  rows-put r free k zero a b = absurd (omega arith)
  rows-put r free k (suc n) a b = go (eqb k r.page) refl (l k) refl (λ c. rows-put r free (suc k) n (omega arith) (omega arith))
    where
      l' : ℕ → Bool
      l' i = cond (eqb i r.page) true (l i)

      h' : ℕ → Row
      h' i = cond (eqb i r.page) r (h i)

      rest : List Row
      rest = rows_from l h (suc k) n

      more : List Row
      more = rows_from l' h' (suc k) n

      go : (t : Bool) → eqb k r.page ≡ t → (s : Bool) → l k ≡ s → (k ≢ r.page → put_row r rest ≡ more)
          → put_row r (cond s (h k ∷ rest) rest) ≡ cond (cond t true s) (cond t r (h k) ∷ more) more
      go true e true m ih = absurd (true≢false (sym m ∙ ap l (eqb-true k r.page e) ∙ free))
      go true e false m ih =
          put_low r (suc k) n (omega (arith, eqb-true k r.page e))
          ∙ ap {B = List Row} (λ x. r ∷ x) (rows-cong l l' h h' (suc k) n (λ i x y. rw (ne i x)) (λ i x y live. rw (ne i x)))
        where
          ne : (i : ℕ) → suc k ≤ i → eqb i r.page ≡ false
          ne i x = ne_eqb i r.page (omega (arith, eqb-true k r.page e))
      go false e true m ih = rw (own k, lt-ltb k r.page (omega (arith, eqb-false k r.page e)), ih (eqb-false k r.page e))
      go false e false m ih = ih (eqb-false k r.page e)

-- ---- rising lists with the same members are equal

-- a member of a list that is all above x is above x
all_above : (x p : ℕ) (ys : List ℕ) → all (ltb x) ys ≡ true → any (λ y. eqb y p) ys ≡ true → x < p
unfolding all any
all_above x p [] a m = absurd (true≢false (sym m))
all_above x p (y ∷ ys) a m = go (eqb y p) refl (all_above x p ys (and_second (ltb x y) (all (ltb x) ys) a))
  where
    go : (t : Bool) → eqb y p ≡ t → (any (λ z. eqb z p) ys ≡ true → x < p) → x < p
    go true e ih = omega (arith, eqb-true y p e, ltb-true x y (and_first (ltb x y) (all (ltb x) ys) a))
    go false e ih = ih (rw e at m)

absent : (x : ℕ) (ys : List ℕ) → all (ltb x) ys ≡ true → any (λ y. eqb y x) ys ≡ false
absent x ys a = go (any (λ y. eqb y x) ys) refl
  where
    go : (t : Bool) → any (λ y. eqb y x) ys ≡ t → t ≡ false
    go true e = absurd (omega (arith, all_above x x ys a e))
    go false e = refl

-- no member is below the first
first : (x p : ℕ) (xs : List ℕ) → all (ltb x) xs ≡ true → any (λ y. eqb y p) (x ∷ xs) ≡ true → x ≤ p
unfolding any
first x p xs a m = go (eqb x p) refl
  where
    go : (t : Bool) → eqb x p ≡ t → x ≤ p
    go true e = omega (arith, eqb-true x p e)
    go false e = omega (arith, all_above x p xs a (rw e at m))

head_in : (x : ℕ) (xs : List ℕ) → any (λ y. eqb y x) (x ∷ xs) ≡ true
unfolding any
head_in x xs = rw (eq-eqb x x refl)

pub rising-ext : (xs ys : List ℕ) → ordered ltb xs ≡ true → ordered ltb ys ≡ true
    → ((p : ℕ) → any (λ y. eqb y p) xs ≡ any (λ y. eqb y p) ys) → xs ≡ ys
unfolding ordered any
rising-ext [] [] a b h = refl
rising-ext [] (y ∷ ys) a b h = absurd (true≢false (sym (h y ∙ head_in y ys)))
rising-ext (x ∷ xs) [] a b h = absurd (true≢false (sym (head_in x xs) ∙ h x))
rising-ext (x ∷ xs) (y ∷ ys) a b h =
    let l : x ≤ y = first x y xs above-x (h y ∙ head_in y ys) in
    let m : y ≤ x = first y x ys above-y (sym (h x) ∙ head_in x xs) in
    let e : x ≡ y = omega arith in
    let t : xs ≡ ys = rising-ext xs ys (and_second (all (ltb x) xs) (ordered ltb xs) a) (and_second (all (ltb y) ys) (ordered ltb ys) b) (λ p. tails e p (eqb x p) refl) in
    cc
  where
    above-x : all (ltb x) xs ≡ true
    above-x = and_first (all (ltb x) xs) (ordered ltb xs) a

    above-y : all (ltb y) ys ≡ true
    above-y = and_first (all (ltb y) ys) (ordered ltb ys) b

    tails : x ≡ y → (p : ℕ) (t : Bool) → eqb x p ≡ t → any (λ z. eqb z p) xs ≡ any (λ z. eqb z p) ys
    tails e p true q = rw (← eqb-true x p q, absent x xs above-x) (rw e (sym (absent y ys above-y)))
    tails e p false q = rw (← e, q) at (h p)

pub any-map : (rs : List Row) (p : ℕ) → any (λ r. eqb r.page p) rs ≡ any (λ y. eqb y p) (map (λ r. r.page) rs)
unfolding any
any-map [] p = refl
any-map (r ∷ rs) p = rw (any-map rs p)

-- ---- a number stands at most once among rising ones
later : (p : ℕ) (xs : List ℕ) → all (ltb p) xs ≡ true → count (λ n. eqb n p) xs ≡ 0
unfolding all count
later p [] h = refl
later p (x ∷ xs) h =
    rw (ne_eqb x p (omega (arith, ltb-true p x (and_first (ltb p x) (all (ltb p) xs) h))), later p xs (and_second (ltb p x) (all (ltb p) xs) h))
    (omega arith)

pub rising-once : (p : ℕ) (xs : List ℕ) → ordered ltb xs ≡ true → count (λ n. eqb n p) xs ≡ cond (any (λ n. eqb n p) xs) 1 0
unfolding ordered count any
rising-once p [] h = refl
rising-once p (x ∷ xs) h = go (eqb x p) refl (rising-once p xs (and_second (all (ltb x) xs) (ordered ltb xs) h))
  where
    go : (t : Bool) → eqb x p ≡ t → count (λ n. eqb n p) xs ≡ cond (any (λ n. eqb n p) xs) 1 0
        → cond t 1 0 + count (λ n. eqb n p) xs ≡ cond (t || any (λ n. eqb n p) xs) 1 0
    go true e ih = rw (later p xs (rw (eqb-true x p e) at (and_first (all (ltb x) xs) (ordered ltb xs) h))) (omega arith)
    go false e ih = rw ih (omega arith)

pub count_map : {A : Type 0} (f : A → ℕ) (q : ℕ → Bool) (xs : List A) → count q (map f xs) ≡ count (λ x. q (f x)) xs
unfolding count
count_map f q [] = refl
count_map f q (x ∷ xs) = rw (count_map f q xs)

-- ---- in rows of rising pages each row's sketch is the one found by its page
module _ (d : List ℕ → ℕ) where
  abbrev same : List Row → Row → Bool
  same rs r = eqb (d r.sketch) (d (sketch_in rs r.page))

  past_first : (r : Row) (rs ss : List Row) → all (ltb r.page) (map (λ s. s.page) ss) ≡ true → all (same rs) ss ≡ true → all (same (r ∷ rs)) ss ≡ true
  unfolding all sketch_in
  past_first r rs [] a h = refl
  past_first r rs (s ∷ ss) a h =
      let l : r.page < s.page = ltb-true r.page s.page (and_first (ltb r.page s.page) _ a) in
      and_intro (same (r ∷ rs) s) (all (same (r ∷ rs)) ss) (rw (ne_eqb r.page s.page (omega arith)) (and_first (same rs s) (all (same rs) ss) h))
      (past_first r rs ss (and_second (ltb r.page s.page) _ a) (and_second (same rs s) (all (same rs) ss) h))

  pub own-sketch : (rs : List Row) → ordered ltb (map (λ r. r.page) rs) ≡ true → all (λ r. eqb (d r.sketch) (d (sketch_in rs r.page))) rs ≡ true
  unfolding all ordered sketch_in
  own-sketch [] h = refl
  own-sketch (r ∷ rs) h =
      let t = all (ltb r.page) (map (λ s. s.page) rs) in
      and_intro (same (r ∷ rs) r) (all (same (r ∷ rs)) rs) (rw (eq-eqb r.page r.page refl) (eq-eqb (d r.sketch) (d r.sketch) refl))
      (past_first r rs rs (and_first t _ h) (own-sketch rs (and_second t _ h)))
