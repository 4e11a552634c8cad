-- `step_to` by each way, and `descend`, one step at a time.
use Rattle.std.specs.Prelude.{Option, Some, None}
use Prim.Native.Nat.{ℕ, zero, suc, ◌+◌, ◌-◌, ◌<◌, ◌≤◌}
use mathlib.Core.Path.{◌≡◌, refl}
use mathlib.Core.List.{List}
use native.Mathlib.Omega.{arith}
use borrow.Author.Tests.{lt-ltb, le-ltb}
use lib.ListN.{length, get_or}
use Rattle.layout.specs.States.{kind_of}
use Rattle.layout.specs.declared.nodes.Kind.{Kind}
use Rattle.layout.specs.declared.nodes.Kind.TheVariants as kind
use Rattle.children.specs.declared.place.Place.{Place}
use Rattle.children.specs.declared.place.Place.TheVariants.{Found, Missing}
use Rattle.children.specs.Places.{find_place}
use Rattle.trie.specs.declared.path.Step.{Step}
use Rattle.trie.specs.declared.path.Step.TheVariants.{Child}
use Rattle.trie.specs.declared.path.Step.TheVariants as step
use Rattle.trie.specs.declared.path.Reach.{Reach}
use Rattle.trie.specs.declared.path.Reach.TheVariants.{Leaf, Gap}
use Rattle.trie.specs.Descend.{step_by, step_to, reached, follow, descend}

module _ (N : List ℕ) (cap : ℕ) (Y : List ℕ) (n k : ℕ) (q : Kind) (e : q ≡ kind_of N cap n) where
  pub step-leaf : (first : ℕ) → q ≡ kind.Leaf first → Some step.Leaf ≡ step_to N cap Y n k
  unfolding step_to
  step-leaf first l = rw (← e, l) refl

  pub step-free : q ≡ kind.Free → None ≡ step_to N cap Y n k
  unfolding step_to
  step-free l = rw (← e, l) refl

  module _ (l : q ≡ kind.Inner) where
    pub step-out : length Y ≤ k → None ≡ step_to N cap Y n k
    unfolding step_to
    step-out o = rw (← e, l, le-ltb _ _ o) refl

    module _ (i : k < length Y) (r : Option Place) (h : r ≡ find_place N cap n (get_or Y k 0)) where
      pub step-inner : step_by r ≡ step_to N cap Y n k
      unfolding step_to
      step-inner = rw (← e, l, lt-ltb _ _ i, h) refl

      pub step-found : (s c : ℕ) → r ≡ Some (Found s c) → Some (Child s c) ≡ step_to N cap Y n k
      step-found s c w = rw w at step-inner

      pub step-gap : (s : ℕ) → r ≡ Some (Missing s) → Some (step.Gap s) ≡ step_to N cap Y n k
      step-gap s w = rw w at step-inner

      pub step-nowhere : r ≡ None → None ≡ step_to N cap Y n k
      step-nowhere w = rw w at step-inner

-- R is what the walk comes to in the end
module _ (N : List ℕ) (cap : ℕ) (Y : List ℕ) (n s k : ℕ) (R : Option Reach) where
  desc-at : (f : ℕ) → descend N cap Y n s k f ≡ R → (go : ℕ → ℕ → Option Reach) × (follow go n s k (step_to N cap Y n k) ≡ R)
  unfolding descend
  desc-at zero h = (λ c s'. None, h)
  desc-at (suc f) h = (λ c s'. descend N cap Y c s' (k + 1) f, h)

  module _ (inv : descend N cap Y n s k (length Y - k) ≡ R) (r : Option Step) (e : r ≡ step_to N cap Y n k) where
    pub desc-leaf : r ≡ Some step.Leaf → Some (Leaf (reached n s k)) ≡ R
    desc-leaf w = rw (← e, w) at (desc-at (length Y - k) inv).1

    pub desc-gap : (s' : ℕ) → r ≡ Some (step.Gap s') → Some (Gap (reached n s' k)) ≡ R
    desc-gap s' w = rw (← e, w) at (desc-at (length Y - k) inv).1

    pub desc-nowhere : r ≡ None → None ≡ R
    desc-nowhere w = rw (← e, w) at (desc-at (length Y - k) inv).1

    pub desc-child : k < length Y → (c s' : ℕ) → r ≡ Some (Child s' c) → descend N cap Y c s' (k + 1) (length Y - (k + 1)) ≡ R
    unfolding descend
    desc-child i c s' w = let z : length Y - k ≡ suc (length Y - (k + 1)) = omega (arith, i) in rw (z, ← e, w) at inv
