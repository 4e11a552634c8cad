-- `place_from`, one step at a time, and the bounds that a match on a place tells.
use Rattle.std.specs.Prelude.{Option, Some, None}
use Prim.Native.Nat.{ℕ, suc, ◌-◌, ◌<◌, ◌≤◌}
use mathlib.Core.Path.{◌≡◌, ap, ◌∙◌, sym}
use mathlib.Core.List.{List}
use mathlib.Core.Bool.{cond}
use native.Mathlib.Omega.{arith}
use borrow.Author.Tests.{le-ltb, lt-ltb, eq-eqb, ne_eqb}
use lib.Dec.{ltb, eqb}
use Rattle.layout.specs.Nodes.{node_words}
use Rattle.children.specs.declared.place.Place.{Place}
use Rattle.children.specs.declared.place.Place.TheVariants.{Found, Missing}
use Rattle.children.specs.Places.{Inside, link_at, child_at, byte_in, place_from}

pub suc-pred : (f : ℕ) → (f ≡ 0 → ⊥) → f ≡ suc (f - 1)
suc-pred f h = omega arith

-- `place_from` at each way out of a turn. R is what the walk comes to in the end
module _ (N : List ℕ) (cap b s f : ℕ) (R : Option Place) (inv : place_from N cap b s f ≡ R) where
  pub place_out : f ≡ 0 → None ≡ R
  unfolding place_from
  place_out e = rw e at inv

  module _ (h : f ≡ 0 → ⊥) where
    place-step :
        cond (eqb (link_at N s) 0) (Some (Missing s))
        (cond (ltb cap (link_at N s)) None
        (cond (ltb (byte_in N (child_at N s)) b) (place_from N cap b (child_at N s) (f - 1))
        (cond (eqb (byte_in N (child_at N s)) b) (Some (Found s (child_at N s))) (Some (Missing s))))) ≡ R
    unfolding place_from
    place-step = ap (place_from N cap b s) (sym (suc-pred f h)) ∙ inv

    pub place_none : link_at N s ≡ 0 → Some (Missing s) ≡ R
    place_none e = rw (eq-eqb _ _ e) at place-step

    module _ (e : link_at N s ≡ 0 → ⊥) where
      pub place-broken : cap < link_at N s → None ≡ R
      place-broken l = rw (ne_eqb _ _ e, lt-ltb _ _ l) at place-step

      module _ (l : link_at N s ≤ cap) where
        pub place-go : byte_in N (child_at N s) < b → place_from N cap b (child_at N s) (f - 1) ≡ R
        place-go m = rw (ne_eqb _ _ e, le-ltb _ _ l, lt-ltb _ _ m) at place-step

        pub place-on : (g : ℕ) → g ≡ f - 1 → byte_in N (child_at N s) < b → place_from N cap b (child_at N s) g ≡ R
        place-on g q m = rw q (place-go m)

        module _ (m : b ≤ byte_in N (child_at N s)) where
          pub place_found : byte_in N (child_at N s) ≡ b → Some (Found s (child_at N s)) ≡ R
          place_found q = rw (ne_eqb _ _ e, le-ltb _ _ l, le-ltb _ _ m, eq-eqb _ _ q) at place-step

          pub place-past : (byte_in N (child_at N s) ≡ b → ⊥) → Some (Missing s) ≡ R
          place-past q = rw (ne_eqb _ _ e, le-ltb _ _ l, le-ltb _ _ m, ne_eqb _ _ q) at place-step

-- the bounds that a match tells
pub found_in : (cap : ℕ) (r : Option Place) (s c : ℕ) → r ≡ Some (Found s c) → Inside cap r → c < cap
found_in cap r s c e h = rw e at h.child

pub found-slot : (cap : ℕ) (r : Option Place) (s c : ℕ) → r ≡ Some (Found s c) → Inside cap r → s < node_words cap
found-slot cap r s c e h = rw e at h.slot

pub missing-in : (cap : ℕ) (r : Option Place) (s : ℕ) → r ≡ Some (Missing s) → Inside cap r → s < node_words cap
missing-in cap r s e h = rw e at h.slot
