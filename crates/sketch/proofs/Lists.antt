-- Parts of lists, and tests on all of their elements.
use mathlib.Core.Bool.{Bool, true, ◌&&◌, and-eq-true_iff}
use mathlib.Core.List.{List, [], ◌∷◌}
use mathlib.Core.Path.{◌≡◌, refl, sym, ap, ap₂, ◌∙◌}
use Prim.Native.Nat.{ℕ, zero, suc, ◌-◌, min}
use native.Mathlib.Nat.{le_of_eq, sub-zero, zero-sub, suc-sub-suc, zero-min, min-zero, suc-min-suc}
use lib.ListN.{length, take, drop, length-drop}
use lib.Seq.{take-nil, take_all}
use Rattle.meaning.specs.Lists.{all}

module _ {A : Type 0} where
  drop-take : (a n : ℕ) (xs : List A) → drop a (take n xs) ≡ take (n - a) (drop a xs)
  drop-take zero n xs = ap (λ (k : ℕ). take k xs) (sym (sub-zero n))
  drop-take (suc a) zero xs = ap (λ (k : ℕ). take k (drop (suc a) xs)) (sym (zero-sub (suc a)))
  drop-take (suc a) (suc n) [] = sym (take-nil (suc n - suc a))
  drop-take (suc a) (suc n) (x ∷ xs) = drop-take a n xs ∙ ap (λ (k : ℕ). take k (drop a xs)) (sym (suc-sub-suc n a))

  take_min : (m n : ℕ) (xs : List A) → take m (take n xs) ≡ take (min m n) xs
  take_min zero n xs = ap (λ (k : ℕ). take k xs) (sym (zero-min n))
  take_min (suc m) zero xs = ap (λ (k : ℕ). take k xs) (sym (min-zero (suc m)))
  take_min (suc m) (suc n) [] = sym (take-nil (min (suc m) (suc n)))
  take_min (suc m) (suc n) (x ∷ xs) =
      ap (λ (ys : List A). x ∷ ys) (take_min m n xs) ∙ ap (λ (k : ℕ). take k (x ∷ xs)) (sym (suc-min-suc m n))

  -- all from place a on
  pub rest : (a : ℕ) (xs : List A) → take (length xs - a) (drop a xs) ≡ drop a xs
  rest a xs = take_all (length xs - a) (drop a xs) (le_of_eq (length-drop a xs))

  -- c elements from place a on, of the first n
  pub window : (c a n : ℕ) (xs : List A) → take c (drop a (take n xs)) ≡ take (min c (n - a)) (drop a xs)
  window c a n xs = ap (take c) (drop-take a n xs) ∙ take_min c (n - a) (drop a xs)

  module _ (p : A → Bool) where
    pub all_head : (x : A) (xs : List A) → all p (x ∷ xs) ≡ true → p x ≡ true
    unfolding all
    all_head x xs h = ((and-eq-true_iff (p x) (all p xs)).0 h).0

    pub all_tail : (x : A) (xs : List A) → all p (x ∷ xs) ≡ true → all p xs ≡ true
    unfolding all
    all_tail x xs h = ((and-eq-true_iff (p x) (all p xs)).0 h).1

    pub all_take : (n : ℕ) (xs : List A) → all p xs ≡ true → all p (take n xs) ≡ true
    unfolding all
    all_take zero xs h = refl
    all_take (suc n) [] h = refl
    all_take (suc n) (x ∷ xs) h = ap₂ ◌&&◌ (all_head x xs h) (all_take n xs (all_tail x xs h))

    pub all_drop : (n : ℕ) (xs : List A) → all p xs ≡ true → all p (drop n xs) ≡ true
    unfolding all
    all_drop zero xs h = h
    all_drop (suc n) [] h = h
    all_drop (suc n) (x ∷ xs) h = all_drop n xs (all_tail x xs h)
