-- An exact descent from one cursor on: that it ends, with which link, the nodes it goes to, and how many it reads; and its single steps.
use Prim.Native.Nat.{ℕ, zero, suc, ◌+◌, ◌≤◌, ◌<◌}
use native.Mathlib.Omega.{arith}
use mathlib.Core.Path.{◌≡◌, refl, sym, ap, ◌∙◌, subst}
use mathlib.Core.Logic.{◌≢◌}
use mathlib.Core.Bool.{Bool, true, false, cond}
use mathlib.Core.List.{List, [], ◌∷◌, ◌++◌}
use lib.Dec.{eqb}
use lib.ListN.{get_or}
use borrow.Author.Tests.{eq-eqb, ne_eqb}
use Rattle.children.specs.Cursors.{seen, look_at}
use Rattle.descent.specs.declared.Cursor.{Cursor}
use Rattle.descent.specs.Cursor.{ended, ahead, arrive, advance, descended, drawn, leaf_of}
use Rattle.descent.proofs.Steps.{descended-ended, drawn-ended, advance-along, advance-past, advance-down}
use Rattle.walk_laws.specs.Trail.{reached, exact_trail}

module _ (nodes : List ℕ) (cap : ℕ) (bytes : List ℕ) where
  -- a cursor ends within some steps, each of which reads a node, at a leaf by the link of its first page, and goes to some nodes
  pub record Led (c : Cursor) (leaf cost : ℕ) (xs : List ℕ) : Type 0 where
    pub over : (f : ℕ) → cost ≤ f → (descended nodes cap bytes f c).link ≡ 0
    pub first : (f : ℕ) → cost ≤ f → (descended nodes cap bytes f c).first ≡ leaf
    pub went : (f : ℕ) → cost ≤ f → exact_trail nodes cap bytes f c ≡ xs
    pub drew : (f : ℕ) → drawn nodes cap bytes f c ≤ cost

  pub led-leaf : (c : Cursor) (leaf cost : ℕ) (went : List ℕ) → Led c leaf cost went → (f : ℕ) → cost ≤ f → leaf_of (descended nodes cap bytes f c) ≡ leaf
  unfolding leaf_of
  led-leaf c leaf cost went l f m = rw (l.over f m) (l.first f m)

  -- ---- from cursor to cursor
  -- one that has ended stays
  pub ended-none : (c : Cursor) → c.link ≡ 0 → (f : ℕ) → exact_trail nodes cap bytes f c ≡ []
  unfolding exact_trail reached advance
  ended-none c e zero = refl
  ended-none c e (suc f) = rw (eq-eqb c.link 0 e) (ended-none c e f)

  pub led-end : (c : Cursor) → c.link ≡ 0 → Led c c.first 0 []
  led-end c e = record {
    over = λ f l. ap (λ d. d.link) (descended-ended nodes cap bytes f c e) ∙ e;
    first = λ f l. ap (λ d. d.first) (descended-ended nodes cap bytes f c e);
    went = λ f l. ended-none c e f;
    drew = λ f. omega (arith, drawn-ended nodes cap bytes f c e);
  }

  step-over : (c : Cursor) (leaf cost : ℕ) (went : List ℕ) → Led (advance nodes cap bytes c) leaf cost went
      → (f : ℕ) → suc cost ≤ f → (descended nodes cap bytes f c).link ≡ 0
  unfolding descended
  step-over c leaf cost went l zero m = absurd (omega arith)
  step-over c leaf cost went l (suc f) m = l.over f (omega arith)

  step-first : (c : Cursor) (leaf cost : ℕ) (went : List ℕ) → Led (advance nodes cap bytes c) leaf cost went
      → (f : ℕ) → suc cost ≤ f → (descended nodes cap bytes f c).first ≡ leaf
  unfolding descended
  step-first c leaf cost went l zero m = absurd (omega arith)
  step-first c leaf cost went l (suc f) m = l.first f (omega arith)

  step_went : (c : Cursor) (leaf cost : ℕ) (went : List ℕ) → Led (advance nodes cap bytes c) leaf cost went
      → (f : ℕ) → suc cost ≤ f → exact_trail nodes cap bytes f c ≡ reached nodes cap bytes c ++ went
  unfolding exact_trail
  step_went c leaf cost went l zero m = absurd (omega arith)
  step_went c leaf cost went l (suc f) m = ap (λ xs. reached nodes cap bytes c ++ xs) (l.went f (omega arith))

  step-drew : (c : Cursor) (leaf cost : ℕ) (went : List ℕ) → Led (advance nodes cap bytes c) leaf cost went
      → (f : ℕ) → drawn nodes cap bytes f c ≤ suc cost
  unfolding drawn
  step-drew c leaf cost went l zero = omega arith
  step-drew c leaf cost went l (suc f) = go (eqb c.link 0) (l.drew f)
    where
      go : (q : Bool) → drawn nodes cap bytes f (advance nodes cap bytes c) ≤ cost
          → cond q 0 (suc (drawn nodes cap bytes f (advance nodes cap bytes c))) ≤ suc cost
      go true h = omega arith
      go false h = omega arith

  -- by a step to another
  pub led-step : (c d : Cursor) (leaf cost : ℕ) (xs went : List ℕ) → advance nodes cap bytes c ≡ d → reached nodes cap bytes c ≡ xs
      → Led d leaf cost went → Led c leaf (suc cost) (xs ++ went)
  led-step c d leaf cost xs went e r l =
      let m : Led (advance nodes cap bytes c) leaf cost went = subst (λ a. Led a leaf cost went) (sym e) l in
      record {
        over = step-over c leaf cost went m;
        first = step-first c leaf cost went m;
        went = λ f n. step_went c leaf cost went m f n ∙ ap (λ ys. ys ++ went) r;
        drew = step-drew c leaf cost went m;
      }

  pub led-within : (c : Cursor) (leaf m n : ℕ) (went : List ℕ) → m ≤ n → Led c leaf m went → Led c leaf n went
  led-within c leaf m n went l led = record {
    over = λ f k. led.over f (omega arith);
    first = λ f k. led.first f (omega arith);
    went = λ f k. led.went f (omega arith);
    drew = λ f. omega (arith, led.drew f);
  }

  -- ---- at the child x of byte c, which is followed by the link l
  module _ (x c l at last y : ℕ) (saw : look_at nodes cap (x + 1) ≡ seen x c l) (here : get_or bytes at 0 ≡ y) where
    abbrev at-child : Cursor
    at-child = ahead (x + 1) at last

    some : x + 1 ≡ 0 → ⊥
    some e = omega arith

    not_there : c ≢ y → reached nodes cap bytes at-child ≡ []
    unfolding reached
    not_there n = rw (ne_eqb (x + 1) 0 some, saw, here, ne_eqb c y n)

    there : c ≡ y → reached nodes cap bytes at-child ≡ x ∷ []
    unfolding reached
    there e = rw (ne_eqb (x + 1) 0 some, saw, here, eq-eqb c y e)

    -- past it
    pub led-less : (leaf cost : ℕ) (xs : List ℕ) → c < y → Led (ahead l at last) leaf cost xs → Led at-child leaf (suc cost) xs
    led-less leaf cost xs m led =
        led-step at-child (ahead l at last) leaf cost [] xs
        (sym (advance-along nodes cap bytes at-child some (look_at nodes cap (x + 1)) refl x c l saw (omega arith))) (not_there (omega arith)) led

    -- none has the byte
    pub led-more : y < c → Led at-child 0 1 []
    led-more m =
        led-step at-child (ended 0) 0 0 [] []
        (sym (advance-past nodes cap bytes at-child some (look_at nodes cap (x + 1)) refl x c l saw (omega arith))) (not_there (omega arith))
        (led-end (ended 0) refl)

    -- to the child
    pub led-same : (leaf cost : ℕ) (xs : List ℕ) → c ≡ y → Led (arrive nodes cap bytes x (at + 1) last) leaf cost xs → Led at-child leaf (suc cost) (x ∷ xs)
    led-same leaf cost xs e led =
        led-step at-child (arrive nodes cap bytes x (at + 1) last) leaf cost (x ∷ []) xs
        (sym (advance-down nodes cap bytes at-child some (look_at nodes cap (x + 1)) refl x c l saw (omega arith) (omega arith))) (there e) led
