-- Measuring in one loop, a strip of places at a time.
use mathlib.Core.Bool.{true, false, ◌&&◌, and-eq-true_iff, true≢false}
use mathlib.Core.List.{List, ◌++◌}
use mathlib.Core.Path.{◌≡◌, refl, sym, ap, ap₂, ◌∙◌}
use Prim.Native.Nat.{ℕ, ◌+◌, ◌-◌, ◌≤◌}
use native.Mathlib.Nat.{add-sub_of_le}
use native.Mathlib.Omega.{arith}
use lib.ListN.{length, take, drop, length-take}
use lib.Seq.{take-add, take_all}
use Rattle.meaning.specs.Lists.{all}
use Rattle.meaning.specs.Sketch.{distance, in_range}
use Rattle.meaning.proofs.Lists.{not_so}
use Rattle.sketch.proofs.Places.{range-append, part-range}
use Rattle.sketch_laws.proofs.Distance.{distance-first, distance-append}
use Rattle.std.specs.Prelude.{Ok, Err}
use Rattle.refusals.specs.declared.Refusal.TheVariants.{BadSymbol}
use Rattle.sketch_calls.specs.Measuring.{After, ending}

module _ (b : ℕ) (x y : List ℕ) where
  pub after_none : After b x y 0 0
  unfolding in_range all distance
  after_none = record { first = refl; second = refl; number = refl }

  pub after-most : (k d : ℕ) → After b x y k d → d ≤ k
  after-most k d a = omega (arith, a.number, distance-first k x y)

  -- the places from k to e, too
  pub after_more : (k e d f : ℕ) → k ≤ e → length x ≡ length y → After b x y k d
      → in_range b (take (e - k) (drop k x)) && in_range b (take (e - k) (drop k y)) ≡ true
      → f ≡ distance (take (e - k) (drop k x)) (take (e - k) (drop k y))
      → After b x y e (d + f)
  after_more k e d f h same a within far =
      let n = e - k in
      let both = (and-eq-true_iff (in_range b (take n (drop k x))) (in_range b (take n (drop k y)))).0 within in
      let split : (xs : List ℕ) → take e xs ≡ take k xs ++ take n (drop k xs) = λ xs. ap (λ i. take i xs) (sym (add-sub_of_le h)) ∙ take-add k n xs in
      let ranged : (xs : List ℕ) → in_range b (take k xs) ≡ true → in_range b (take n (drop k xs)) ≡ true → in_range b (take e xs) ≡ true =
      λ xs old new. ap (in_range b) (split xs) ∙ range-append b (take k xs) (take n (drop k xs)) ∙ ap₂ ◌&&◌ old new in
      record {
        first = ranged x a.first both.0;
        second = ranged y a.second both.1;
        number =
            ap₂ ◌+◌ a.number far
            ∙ sym (distance-append (take k x) (take k y) (take n (drop k x)) (take n (drop k y)) (omega (arith, length-take k x, length-take k y)))
            ∙ ap₂ distance (sym (split x)) (sym (split y));
      }

  -- after all places
  pub after-all : (k d : ℕ) → length x ≤ k → length y ≤ k → After b x y k d → ending b x y ≡ Ok d
  unfolding ending
  after-all k d hx hy a =
      let first : in_range b x ≡ true = rw (take_all k x hx) at a.first in
      let second : in_range b y ≡ true = rw (take_all k y hy) at a.second in
      let number : d ≡ distance x y = rw (take_all k x hx, take_all k y hy) at a.number in
      rw (first, second, number)

  -- by a symbol out of range
  pub ended : (k n : ℕ) → in_range b (take n (drop k x)) && in_range b (take n (drop k y)) ≡ false → ending b x y ≡ Err BadSymbol
  unfolding ending
  ended k n out =
      let part : in_range b x && in_range b y ≡ true → in_range b (take n (drop k x)) && in_range b (take n (drop k y)) ≡ true =
      λ h. let both = (and-eq-true_iff (in_range b x) (in_range b y)).0 h in ap₂ ◌&&◌ (part-range b k n x both.0) (part-range b k n y both.1) in
      rw (not_so (in_range b x && in_range b y) (λ h. true≢false (sym (part h) ∙ out)))
