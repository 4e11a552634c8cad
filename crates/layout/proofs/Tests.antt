-- A test of every element of a list.
use Prim.Native.Nat.{ℕ, zero, suc}
use mathlib.Core.Path.{◌≡◌, refl}
use mathlib.Core.Bool.{Bool, true}
use mathlib.Core.List.{List, [], ◌∷◌}
use lib.ListN.{get_or}
use Rattle.meaning.specs.Lists.{all}
use Rattle.meaning.proofs.Lists.{and_intro, and_first, and_second}

module _ {A : Type 0} (p : A → Bool) where
  pub all-at : (l : List A) (k : ℕ) (d : A) → all p l ≡ true → p d ≡ true → p (get_or l k d) ≡ true
  unfolding all
  all-at [] k d e h = h
  all-at (x ∷ l) zero d e h = and_first (p x) (all p l) e
  all-at (x ∷ l) (suc k) d e h = all-at l k d (and_second (p x) (all p l) e) h

  pub at_all : (l : List A) (d : A) → ((k : ℕ) → p (get_or l k d) ≡ true) → all p l ≡ true
  unfolding all
  at_all [] d h = refl
  at_all (x ∷ l) d h = and_intro (p x) (all p l) (h zero) (at_all l d (λ k. h (suc k)))
