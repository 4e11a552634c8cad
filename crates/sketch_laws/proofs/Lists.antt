-- Laws of the list functions of crate meaning: any, count, upto, sum.
use Prim.Native.Nat.{ℕ, zero, suc, ◌+◌, ◌≤◌, ◌<◌}
use native.Mathlib.Omega.{arith}
use native.Mathlib.Decide.{le_ind}
use native.Mathlib.Nat.{le_refl}
use mathlib.Core.Path.{◌≡◌, refl, sym, ap, ap₂, ◌∙◌}
use mathlib.Core.Logic.{◌⊎◌, inl, inr, ⊎_elim}
use mathlib.Core.Bool.{Bool, true, false, cond, ◌||◌, false≢true}
use mathlib.Core.List.{List, [], ◌∷◌, ◌++◌, map, map-append}
use lib.Dec.{eqb}
use Rattle.meaning.specs.Lists.{any, count, from, upto, sum}
use Rattle.meaning.proofs.Lists.{or-first, or-second, any_append, count-append, upto-suc, sum-append}

pub or_cases : (s t : Bool) → s || t ≡ true → (s ≡ true) ⊎ (t ≡ true)
or_cases true t h = inl refl
or_cases false t h = inr h

-- ---- a number in a list
module _ (p : ℕ) where
  pub in-first : (us vs : List ℕ) → any (eqb p) us ≡ true → any (eqb p) (us ++ vs) ≡ true
  in-first us vs h = any_append (eqb p) us vs ∙ or-first (any (eqb p) us) (any (eqb p) vs) h

  pub in-second : (us vs : List ℕ) → any (eqb p) vs ≡ true → any (eqb p) (us ++ vs) ≡ true
  in-second us vs h = any_append (eqb p) us vs ∙ or-second (any (eqb p) us) (any (eqb p) vs) h

  pub in_either : (us vs : List ℕ) → any (eqb p) (us ++ vs) ≡ true → (any (eqb p) us ≡ true) ⊎ (any (eqb p) vs ≡ true)
  in_either us vs h = or_cases (any (eqb p) us) (any (eqb p) vs) (sym (any_append (eqb p) us vs) ∙ h)

  -- two lists to two others
  pub in_both : (us vs xs ys : List ℕ) → (any (eqb p) us ≡ true → any (eqb p) xs ≡ true) → (any (eqb p) vs ≡ true → any (eqb p) ys ≡ true)
      → any (eqb p) (us ++ vs) ≡ true → any (eqb p) (xs ++ ys) ≡ true
  in_both us vs xs ys f g h = ⊎_elim (λ i. in-first xs ys (f i)) (λ i. in-second xs ys (g i)) (in_either us vs h)

  -- a list that a test takes or leaves
  pub in-cond : (t : Bool) (us : List ℕ) → any (eqb p) (cond t us []) ≡ true → any (eqb p) us ≡ true
  unfolding any
  in-cond true us h = h
  in-cond false us h = absurd (false≢true h)

-- ---- tests of 0, 1, .., n - 1
module _ (p : ℕ → Bool) where
  pub count-suc : (n : ℕ) → count p (upto (suc n)) ≡ count p (upto n) + cond (p n) 1 0
  unfolding count
  count-suc n = ap (count p) (upto-suc n) ∙ count-append p (upto n) (n ∷ []) ∙ omega arith

  pub count-upto-le : (i n : ℕ) → i ≤ n → count p (upto i) ≤ count p (upto n)
  count-upto-le i n h = le_ind (λ (m : ℕ). count p (upto i) ≤ count p (upto m)) (le_refl (count p (upto i))) (λ m l r. omega (arith, count-suc m)) n h

  pub count_none : (n : ℕ) → ((i : ℕ) → i < n → p i ≡ false) → count p (upto n) ≡ 0
  unfolding count upto from
  count_none zero h = refl
  count_none (suc n) h = count-suc n ∙ rw (h n (omega arith), count_none n (λ i l. h i (omega arith)))

-- equal tests count alike
pub count_same : (p q : ℕ → Bool) (n : ℕ) → ((i : ℕ) → i < n → p i ≡ q i) → count p (upto n) ≡ count q (upto n)
unfolding count upto from
count_same p q zero h = refl
count_same p q (suc n) h =
    count-suc p n
    ∙ ap₂ (λ (c : ℕ) (t : Bool). c + cond t 1 0) (count_same p q n (λ i l. h i (omega arith))) (h n (omega arith))
    ∙ sym (count-suc q n)

-- ---- sums
pub sum-suc : (f : ℕ → ℕ) (n : ℕ) → sum (map f (upto (suc n))) ≡ sum (map f (upto n)) + f n
unfolding sum
sum-suc f n =
    ap (λ (l : List ℕ). sum (map f l)) (upto-suc n) ∙ ap sum (map-append f (upto n) (n ∷ [])) ∙ sum-append (map f (upto n)) (f n ∷ [])
    ∙ omega arith
