-- The test of the free chain, step by step.
use Rattle.std.specs.Prelude.{Option, Some, None}
use Prim.Native.Nat.{ℕ, zero, suc, ◌-◌, ◌≤◌, ◌<◌}
use native.Mathlib.Omega.{arith}
use mathlib.Core.Path.{◌≡◌, refl, sym, ap, ◌∙◌}
use mathlib.Core.Bool.{Bool, true, false, cond, not}
use mathlib.Core.Logic.{◌≢◌}
use mathlib.Core.List.{List}
use borrow.Author.Tests.{eq-eqb, ne_eqb, lt-ltb, le-ltb, not-true, not-false}
use lib.Dec.{ltb}
use Rattle.layout.specs.Nodes.{free_state}
use Rattle.layout.specs.States.{kind_of, next_free}
use Rattle.layout.specs.declared.nodes.Kind.TheVariants.{Free, Inner, Leaf}
use Rattle.layout.proofs.States.{free-state, inner-state, leaf-used as used}
use Rattle.children.specs.Order.{bare}
use Rattle.check_tables.specs.Free.{is_free, free_from}

-- ---- a node
module _ (N : List ℕ) (cap x : ℕ) where
  pub free-bare : kind_of N cap x ≡ Free → is_free N cap x ≡ bare N cap x
  unfolding is_free
  free-bare e = rw (eq-eqb _ free_state (free-state N cap x e)) refl

  pub inner-used : kind_of N cap x ≡ Inner → is_free N cap x ≡ false
  unfolding is_free
  inner-used e = rw (inner-state N cap x e) refl

  pub leaf-used : (first : ℕ) → kind_of N cap x ≡ Leaf first → is_free N cap x ≡ false
  unfolding is_free
  leaf-used first e = rw (ne_eqb _ free_state (used N cap x first e)) refl

-- ---- the loop
-- what is left where so many turns are to come: the last is for the chain's end
abbrev pub turns : List ℕ → ℕ → ℕ → ℕ → Option ℕ
turns N cap link zero = None
turns N cap link (suc f) = free_from N cap link f

no-turn : (p q : Bool) → ◌≡◌ {A = Option ℕ} (cond p None (cond q None None)) None
no-turn true q = refl
no-turn false true = refl
no-turn false false = refl

module _ (N : List ℕ) (cap link n : ℕ) (R : Option ℕ) (inv : turns N cap link n ≡ R) where
  module _ (more : 0 < n) where
    from : free_from N cap link (n - 1) ≡ R
    from =
        let q : n ≡ suc (n - 1) = omega arith in
        sym (ap (turns N cap link) q) ∙ inv

    pub chain-end : link ≡ 0 → Some (n - 1) ≡ R
    unfolding free_from
    chain-end z = sym (go (n - 1)) ∙ from
      where
        go : (n : ℕ) → free_from N cap link n ≡ Some n
        go zero = rw (eq-eqb link 0 z) refl
        go (suc n) = rw (eq-eqb link 0 z) refl

    module _ (some : link ≢ 0) where
      -- one step, where the chain goes on
      step : (f : ℕ) → free_from N cap link f ≡ cond (ltb cap link) None (cond (is_free N cap (link - 1)) (turns N cap (next_free N (link - 1)) f) None)
      unfolding free_from
      step zero = rw (ne_eqb link 0 some) (sym (no-turn (ltb cap link) (is_free N cap (link - 1))))
      step (suc f) = rw (ne_eqb link 0 some) refl

      stepped : cond (ltb cap link) None (cond (is_free N cap (link - 1)) (turns N cap (next_free N (link - 1)) (n - 1)) None) ≡ R
      stepped = sym (step (n - 1)) ∙ from

      pub chain-broken : cap ≤ link - 1 → None ≡ R
      chain-broken h = rw (lt-ltb cap link (omega arith)) at stepped

      module _ (inside : link - 1 < cap) (r : Bool) (free : r ≡ is_free N cap (link - 1)) where
        tested : cond r (turns N cap (next_free N (link - 1)) (n - 1)) None ≡ R
        tested = rw free (rw (le-ltb cap link (omega arith)) at stepped)

        pub chain-used : not r ≡ true → None ≡ R
        chain-used e = rw (not-true r e) at tested

        pub chain_next : not r ≡ false → (next : ℕ) → next ≡ next_free N (link - 1) → turns N cap next (n - 1) ≡ R
        chain_next e next is = rw is (rw (not-false r e) at tested)
