-- What a caller learns from a batch.
use Prim.Native.Nat.{ℕ, ◌<◌}
use native.Mathlib.Omega.{arith}
use mathlib.Core.Path.{◌≡◌, refl, sym, ap, subst, ◌∙◌}
use mathlib.Core.List.{List, append-nil}
use lib.ListN.{set, replicate}
use Rattle.layout.specs.Nodes.{steps_for}
use Rattle.layout.specs.States.{kind_of}
use Rattle.layout.specs.declared.nodes.Kind.{Kind}
use Rattle.layout.specs.declared.nodes.Kind.TheVariants as kind
use Rattle.walk_steps.specs.declared.frame.Frame.{Frame}
use Rattle.walk_steps.specs.declared.place.Place.{Place}
use Rattle.walk_steps.specs.Given.{Given, Fitting}
use Rattle.walk_steps.specs.Turn.{entered}
use Rattle.walk_steps.specs.Place.{placed}
use Rattle.walk_steps.proofs.Stack.{frames-none, entered-within}
use Rattle.walk.specs.declared.batch.Rest.{Rest}
use Rattle.walk.specs.declared.batch.Rest.TheVariants.{More, Done, Broken}
use Rattle.walk.specs.declared.batch.Batch.{Batch}
use Rattle.walk.specs.Leaves.{Leaves, leaves, broken, before}
use Rattle.walk.specs.Walk.{state, run, walk_below, walk_from}
use Rattle.walk.specs.Batch.{bare, links_of, from, still, Standing, Ready, Gives, Begins}
use Rattle.walk.proofs.Spend.{before-none}
use Rattle.walk.proofs.Run.{from-by}

-- ---- the ends of a batch
module _ {w : Given} {stack : List Frame} {all : Leaves} {steps : ℕ} {r : Batch} (g : Gives w stack all steps r) where
  gives_as : (a : Rest) → r.rest ≡ a → all ≡ before (links_of r) (still w stack a)
  gives_as a e = sym g.same ∙ ap (λ x. before (links_of r) (still w stack x)) e

  pub gives_more : (p : Place) → r.rest ≡ More p → all ≡ before (links_of r) (from w stack p)
  gives_more p e = gives_as (More p) e

  pub gives-done : (nodes : ℕ) → r.rest ≡ Done nodes → all ≡ leaves (links_of r) nodes
  gives-done nodes e = gives_as (Done nodes) e ∙ ap (λ ls. leaves ls nodes) (append-nil (links_of r))

  pub gives-ready : (p : Place) → r.rest ≡ More p → Standing w stack p × (p.steps < steps)
  gives-ready p e = subst (Ready w stack steps) e g.ready

  pub gives-broken : r.rest ≡ Broken → all ≡ broken
  gives-broken e = gives_as Broken e

-- ---- the first
gives-bare : (w : Given) (stack : List Frame) (all : Leaves) (steps : ℕ) (a : Rest) → still w stack a ≡ all → Ready w stack steps a → Gives w stack all steps (bare a)
gives-bare w stack all steps a e h = record { few = omega arith; same = before-none (still w stack a) ∙ e; ready = h }

module _ (w : Given) (root radius budget : ℕ) (some : 0 < radius) (is : Kind) (e : is ≡ kind_of w.nodes w.cap root) where
  pub begins-free : is ≡ kind.Free → Begins w (walk_from w root radius budget) (bare Broken)
  begins-free q stack long = gives-bare w stack _ _ Broken (from-by w root radius budget some is e kind.Free q) tt

  pub begins-leaf : (first : ℕ) → is ≡ kind.Leaf first
      → Begins w (walk_from w root radius budget) record { links = set (replicate 16 0) 0 first; n = 1; rest = Done budget }
  begins-leaf first q stack long =
      record { few = omega arith; same = from-by w root radius budget some is e (kind.Leaf first) q; ready = tt }

  pub begins-inner : Fitting w → root < w.cap → budget < w.cap → is ≡ kind.Inner
      → Begins w (walk_from w root radius budget) (bare (More (placed 0 (entered w.nodes w.cap root radius) budget (steps_for w.cap))))
  unfolding walk_below
  begins-inner fits inside few q stack long =
      let frame : Frame = entered w.nodes w.cap root radius in
      gives-bare w stack _ _ (More (placed 0 frame budget (steps_for w.cap)))
      (ap (λ fs. run w (steps_for w.cap) budget (state frame fs)) (frames-none stack 0 refl) ∙ from-by w root radius budget some is e kind.Inner q) (
        record {
          here = entered-within w.nodes w.cap root radius inside;
          over = rw (frames-none stack 0 refl) tt;
          room = long;
          level = fits.some;
          few = few;
        },
        omega arith,
      )
