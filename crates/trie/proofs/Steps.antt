-- The models, one step at a time.
use Prim.Native.Nat.{ℕ, ◌-◌, ◌<◌, ◌≤◌}
use mathlib.Core.Path.{◌≡◌, refl, ap, ◌∙◌, sym}
use Rattle.std.specs.Prelude.{Result, Ok, Err, Option, Some, None}
use mathlib.Core.List.{List}
use mathlib.Core.Bool.{cond}
use native.Mathlib.Omega.{arith}
use borrow.Author.Tests.{le-ltb, lt-ltb, eq-eqb, ne_eqb}
use lib.Dec.{ltb, eqb}
use Rattle.layout.specs.States.{next_free}
use Rattle.trie.specs.declared.leaf.Grown.{Grown}
use Rattle.trie.specs.declared.Stop.{Stop}
use Rattle.trie.specs.declared.Stop.TheVariants.{Full}
use Rattle.trie.specs.declared.Stop.TheVariants as stop
use Rattle.children.specs.declared.place.Place.{Place}
use Rattle.children.specs.declared.place.Place.TheVariants.{Found, Missing}
use Rattle.children.proofs.Steps.{suc-pred}
use Rattle.children.specs.Places.{find_place}
use Rattle.trie.specs.Model.{link_leaf, made, grown, node_in, fresh_leaf, child_leaf, span_from}

-- `fresh_leaf`, by each way
module _ (N : List ℕ) (cap s b free : ℕ) where
  pub fresh-full : free ≡ 0 → made N (Err Full) ≡ fresh_leaf N cap s b free
  unfolding fresh_leaf
  fresh-full e = rw (eq-eqb free 0 e) refl

  module _ (h : free ≡ 0 → ⊥) where
    pub fresh-broken : cap ≤ free - 1 → made N (Err stop.Broken) ≡ fresh_leaf N cap s b free
    unfolding fresh_leaf
    fresh-broken l = rw (ne_eqb free 0 h, lt-ltb cap free (omega arith)) refl

    pub fresh-made : (ns : List ℕ) (next : ℕ) → free - 1 < cap → ns ≡ link_leaf N cap s (free - 1) b → next ≡ next_free N (free - 1)
        → made ns (Ok (grown (free - 1) next)) ≡ fresh_leaf N cap s b free
    unfolding fresh_leaf
    fresh-made ns next l e n = rw (ne_eqb free 0 h, le-ltb cap free (omega arith), e, n) refl

pub got_in : (cap : ℕ) (r : Result Grown Stop) (n f : ℕ) → r ≡ Ok (grown n f) → node_in r ≤ cap → n < cap
got_in cap r n f e h = rw e at h

-- `child_leaf`, by each way
module _ (N : List ℕ) (cap n b free : ℕ) (r : Option Place) (e : r ≡ find_place N cap n b) where
  pub child-found : (s c : ℕ) → r ≡ Some (Found s c) → made N (Ok (grown c free)) ≡ child_leaf N cap n b free
  unfolding child_leaf
  child-found s c q = rw (sym e ∙ q) refl

  pub child-made : (ns : List ℕ) (g : Result Grown Stop) (s : ℕ) → r ≡ Some (Missing s) → made ns g ≡ fresh_leaf N cap s b free → made ns g ≡ child_leaf N cap n b free
  unfolding child_leaf
  child-made ns g s q m = rw (sym e ∙ q) m

  pub child-nowhere : r ≡ None → made N (Err stop.Broken) ≡ child_leaf N cap n b free
  unfolding child_leaf
  child-nowhere q = rw (sym e ∙ q) refl

-- `span_from` at each way out of a turn. R is what the walk comes to in the end
module _ (N : List ℕ) (cap l f : ℕ) (R : Result (Unit {0}) Stop) (inv : span_from N cap l f ≡ R) where
  pub span-out : f ≡ 0 → Ok tt ≡ R
  unfolding span_from
  span-out e = rw e at inv

  module _ (h : f ≡ 0 → ⊥) where
    span-step : cond (eqb l 0) (Err Full) (cond (ltb cap l) (Err stop.Broken) (span_from N cap (next_free N (l - 1)) (f - 1))) ≡ R
    unfolding span_from
    span-step = ap (span_from N cap l) (sym (suc-pred f h)) ∙ inv

    pub span-end : l ≡ 0 → Err Full ≡ R
    span-end e = rw (eq-eqb l 0 e) at span-step

    module _ (e : l ≡ 0 → ⊥) where
      pub span-broken : cap < l → Err stop.Broken ≡ R
      span-broken m = rw (ne_eqb l 0 e, lt-ltb cap l m) at span-step

      pub span-next : l ≤ cap → (next : ℕ) → next ≡ next_free N (l - 1) → span_from N cap next (f - 1) ≡ R
      span-next m next q = rw q (rw (ne_eqb l 0 e, le-ltb cap l m) at span-step)

      pub span-on : l ≤ cap → (next g : ℕ) → next ≡ next_free N (l - 1) → g ≡ f - 1 → span_from N cap next g ≡ R
      span-on m next g q e = rw e (span-next m next q)
