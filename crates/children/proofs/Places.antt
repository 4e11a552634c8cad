-- On any table, `find_place` gives a slot and a child inside it.
use Rattle.std.specs.Prelude.{Some, None}
use Prim.Native.Nat.{ℕ, zero, suc, ◌/◌, ◌<◌}
use native.Mathlib.Omega.{arith}
use mathlib.Core.Path.{◌≡◌, refl}
use mathlib.Core.Bool.{Bool, true, false, cond}
use mathlib.Core.List.{List}
use borrow.Author.Tests.{eqb-false, ltb-false}
use lib.Dec.{ltb, eqb}
use Rattle.layout.specs.Nodes.{head_at, node_words}
use Rattle.children.specs.declared.place.Place.TheVariants.{Found, Missing}
use Rattle.children.specs.Places.{Inside, link_at, child_at, byte_in, place_from, find_place}

module _ (N : List ℕ) (cap b : ℕ) where
  place_inside : (f s : ℕ) → s < node_words cap → Inside cap (place_from N cap b s f)
  unfolding place_from
  place_inside zero s l = record { slot = omega arith; child = omega arith }
  place_inside (suc f) s l =
      go (eqb (link_at N s) 0) refl (ltb cap (link_at N s)) refl (ltb (byte_in N (child_at N s)) b) (eqb (byte_in N (child_at N s)) b) (place_inside f (child_at N s))
    where
      go : (z : Bool) → eqb (link_at N s) 0 ≡ z → (w : Bool) → ltb cap (link_at N s) ≡ w → (x y : Bool) →
          (child_at N s < node_words cap → Inside cap (place_from N cap b (child_at N s) f)) →
          Inside cap (cond z (Some (Missing s)) (cond w None (cond x (place_from N cap b (child_at N s) f) (cond y (Some (Found s (child_at N s))) (Some (Missing s))))))
      go true e w m x y ih = record { slot = l; child = omega arith }
      go false e true m x y ih = record { slot = omega arith; child = omega arith }
      go false e false m true y ih = ih (omega (arith, eqb-false (link_at N s) 0 e, ltb-false cap (link_at N s) m))
      go false e false m false true ih = record { slot = l; child = omega (arith, eqb-false (link_at N s) 0 e, ltb-false cap (link_at N s) m) }
      go false e false m false false ih = record { slot = l; child = omega arith }

  pub find-inside : (n : ℕ) → n < cap → b < 256 → Inside cap (find_place N cap n b)
  unfolding find_place
  find-inside n l m = place_inside 33 (head_at cap n (b / 32)) (omega arith)
