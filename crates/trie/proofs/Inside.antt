-- On any table, `descend_to` gives numbers inside it, and what a match on them tells.
use Rattle.std.specs.Prelude.{Option, Some, None}
use Prim.Native.Nat.{ℕ, zero, suc, ◌+◌, ◌<◌, ◌≤◌}
use native.Mathlib.Omega.{arith}
use mathlib.Core.Path.{◌≡◌, refl}
use mathlib.Core.Bool.{Bool, true, false, cond}
use mathlib.Core.List.{List}
use borrow.Author.Tests.{ltb-true}
use lib.Dec.{ltb}
use lib.ListN.{length, get_or}
use Rattle.layout.specs.Nodes.{node_words}
use Rattle.layout.specs.States.{kind_of}
use Rattle.layout.specs.declared.nodes.Kind.{Kind}
use Rattle.layout.specs.declared.nodes.Kind.TheVariants as kind
use Rattle.children.specs.declared.place.Place.{Place}
use Rattle.children.specs.declared.place.Place.TheVariants.{Found, Missing}
use Rattle.children.specs.Places.{find_place, Inside as PlaceInside}
use Rattle.children.proofs.Places.{find-inside}
use Rattle.trie.specs.declared.path.Step.{Step}
use Rattle.trie.specs.declared.path.Step.TheVariants.{Child}
use Rattle.trie.specs.declared.path.Step.TheVariants as step
use Rattle.trie.specs.declared.path.Reached.{Reached}
use Rattle.trie.specs.declared.path.Reach.{Reach}
use Rattle.trie.specs.declared.path.Reach.TheVariants.{Leaf, Gap}
use Rattle.trie.specs.Descend.{step_by, step_in, step_to, follow, descend, descend_to, StepInside, Inside}

module _ (N : List ℕ) (cap : ℕ) (Y : List ℕ) (octets : (k : ℕ) → get_or Y k 0 < 256) where
  abbrev In : Option Reach → Type 0
  In = Inside cap (length Y)

  pub step-inside : (n k : ℕ) → n < cap → StepInside cap (length Y) k (step_to N cap Y n k)
  unfolding step_to
  step-inside n k ln = at (kind_of N cap n) (cond (ltb k (length Y)) (step_by (find_place N cap n (get_or Y k 0))) None) (on (ltb k (length Y)) refl)
    where
      by : k < length Y → (r : Option Place) → PlaceInside cap r → StepInside cap (length Y) k (step_by r)
      by l (Some (Found s c)) i = (i.child, i.slot, l)
      by l (Some (Missing s)) i = (i.slot, l)
      by l None i = tt

      on : (b : Bool) → ltb k (length Y) ≡ b → StepInside cap (length Y) k (cond b (step_by (find_place N cap n (get_or Y k 0))) None)
      on true e = by (ltb-true k (length Y) e) (find_place N cap n (get_or Y k 0)) (find-inside N cap (get_or Y k 0) n ln (octets k))
      on false e = tt

      at : (q : Kind) (below : Option Step) → StepInside cap (length Y) k below → StepInside cap (length Y) k (step_in below q)
      at (kind.Leaf first) below h = tt
      at kind.Free below h = tt
      at kind.Inner below h = h

  follow-in : (n s k : ℕ) → n < cap → s < node_words cap → k ≤ length Y → (go : ℕ → ℕ → Option Reach) → ((c s' : ℕ) → c < cap → s' < node_words cap → In (go c s')) →
      (r : Option Step) → StepInside cap (length Y) k r → In (follow go n s k r)
  follow-in n s k ln ls l go h (Some (Child s' c)) i = h c s' i.0 i.1
  follow-in n s k ln ls l go h (Some step.Leaf) i = (ln, ls, l)
  follow-in n s k ln ls l go h (Some (step.Gap s')) i = (ln, i.0, i.1)
  follow-in n s k ln ls l go h None i = tt

  descend-in : (f n s k : ℕ) → n < cap → s < node_words cap → k + f ≡ length Y → In (descend N cap Y n s k f)
  unfolding descend
  descend-in zero n s k ln ls e = follow-in n s k ln ls (omega arith) (λ c s'. None) (λ c s' lc ls'. tt) (step_to N cap Y n k) (step-inside n k ln)
  descend-in (suc f) n s k ln ls e =
      follow-in n s k ln ls (omega arith) (λ c s'. descend N cap Y c s' (k + 1) f) (λ c s' lc ls'. descend-in f c s' (k + 1) lc ls' (omega arith)) (step_to N cap Y n k) (step-inside n k ln)

  pub descend-inside : (root : ℕ) → root < cap → In (descend_to N cap root Y)
  unfolding descend_to
  descend-inside root l = descend-in (length Y) root 0 0 l (omega arith) (omega arith)

-- what a match tells
module _ (cap len k : ℕ) (r : Option Step) (h : StepInside cap len k r) where
  module _ (s c : ℕ) (e : r ≡ Some (Child s c)) where
    child-in : StepInside cap len k (Some (Child s c))
    child-in = rw e at h

    pub child-node : c < cap
    child-node = child-in.0

    pub child-slot : s < node_words cap
    child-slot = child-in.1

    pub child-level : k < len
    child-level = child-in.2

  module _ (s : ℕ) (e : r ≡ Some (step.Gap s)) where
    gap_step : StepInside cap len k (Some (step.Gap s))
    gap_step = rw e at h

    pub gap_at : s < node_words cap
    gap_at = gap_step.0

    pub gap_below : k < len
    gap_below = gap_step.1

module _ (cap len : ℕ) (r : Option Reach) (at : Reached) where
  module _ (e : r ≡ Some (Leaf at)) (h : Inside cap len r) where
    leaf-in : Inside cap len (Some (Leaf at))
    leaf-in = rw e at h

    pub leaf-node : at.node < cap
    leaf-node = leaf-in.0

    pub leaf-slot : at.slot < node_words cap
    leaf-slot = leaf-in.1

    pub leaf-level : at.level ≤ len
    leaf-level = leaf-in.2

  module _ (e : r ≡ Some (Gap at)) (h : Inside cap len r) where
    gap-in : Inside cap len (Some (Gap at))
    gap-in = rw e at h

    pub gap-slot : at.slot < node_words cap
    gap-slot = gap-in.1

    pub gap-level : at.level < len
    gap-level = gap-in.2
