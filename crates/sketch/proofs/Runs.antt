-- Lists made from the numbers 0, 1, .., n - 1, and tables filled with them.
use mathlib.Core.Bool.{Bool, true, false, ◌&&◌}
use mathlib.Core.List.{List, [], ◌∷◌, ◌++◌, map, map-append}
use mathlib.Core.Path.{◌≡◌, refl, sym, ap, ◌∙◌}
use Prim.Native.Nat.{ℕ, zero, suc, ◌+◌, ◌-◌, ◌<◌, ◌≤◌}
use native.Mathlib.Numerals.{add-one}
use native.Mathlib.Omega.{arith}
use lib.ListN.{length, get_or, set, drop}
use lib.Seq.{drop-cons, set_at, append_snoc}
use Rattle.meaning.specs.Lists.{upto, from, onto, all}
use Rattle.meaning.proofs.Lists.{upto-suc, length-map-upto}

module _ {A : Type 0} (f : ℕ → A) where
  pub map-from-suc : (k n : ℕ) → map f (from (suc k) n) ≡ map (λ (i : ℕ). f (suc i)) (from k n)
  unfolding from
  map-from-suc k zero = refl
  map-from-suc k (suc n) = ap (λ (l : List A). f (suc k) ∷ l) (map-from-suc (suc k) n)

  map-upto-more : (n : ℕ) → map f (upto (n + 1)) ≡ map f (upto n) ++ (f n ∷ [])
  map-upto-more n = ap (λ (k : ℕ). map f (upto k)) (add-one n) ∙ ap (map f) (upto-suc n) ∙ map-append f (upto n) (n ∷ [])

  filled : (n : ℕ) (table : List A) → onto (map f (upto n)) table ≡ map f (upto n) ++ drop n table
  unfolding onto
  filled n table = ap (λ (k : ℕ). map f (upto n) ++ drop k table) (length-map-upto f n)

  -- a table is filled from its beginning, place by place
  pub fill_none : (table : List A) → table ≡ onto (map f (upto 0)) table
  unfolding onto upto from
  fill_none table = refl

  pub fill_more : (n : ℕ) (table : List A) (d : A) → n < length table
      → set (onto (map f (upto n)) table) n (f n) ≡ onto (map f (upto (n + 1))) table
  fill_more n table d h =
      rw (filled n table, filled (n + 1) table, map-upto-more n, add-one n, drop-cons table n d h)
      (set_at (map f (upto n)) (get_or table n d) (drop (suc n) table) (f n) n (length-map-upto f n) ∙ sym (append_snoc (map f (upto n)) (f n) (drop (suc n) table)))

-- a test of every number below n, taken on from k
module _ (p : ℕ → Bool) (k n : ℕ) where
  all-step : k < n → all p (from k (n - k)) ≡ p k && all p (from (k + 1) (n - (k + 1)))
  unfolding from all
  all-step h =
      let more : n - k ≡ suc (n - (k + 1)) = omega arith in
      ap (λ (i : ℕ). all p (from k i)) more ∙ ap (λ (i : ℕ). p k && all p (from i (n - (k + 1)))) (sym (add-one k))

  pub all-fails : k < n → p k ≡ false → all p (from k (n - k)) ≡ false
  all-fails h e = all-step h ∙ ap (λ (t : Bool). t && all p (from (k + 1) (n - (k + 1)))) e

  pub all-passes : k < n → p k ≡ true → all p (from k (n - k)) ≡ all p (from (k + 1) (n - (k + 1)))
  all-passes h e = all-step h ∙ ap (λ (t : Bool). t && all p (from (k + 1) (n - (k + 1)))) e

  pub all_done : n ≤ k → all p (from k (n - k)) ≡ true
  unfolding from all
  all_done h =
      let none : n - k ≡ 0 = omega arith in
      ap (λ (i : ℕ). all p (from k i)) none
