-- The walk of a block, a batch of leaves at a time: what is met, and what the walk is still to give.
use Rattle.std.specs.Prelude.{Option, Some, None}
use Prim.Native.Nat.{ℕ, suc, ◌<◌}
use native.Mathlib.Omega.{arith}
use mathlib.Core.Path.{◌≡◌, refl, sym, ap, ◌∙◌}
use mathlib.Core.List.{List, [], append-nil}
use lib.ListN.{length, take}
use Rattle.meaning.specs.Forest.{bytes_of_sketch}
use Rattle.layout.specs.declared.Numbers.{Numbers}
use Rattle.layout.specs.Header.{bare}
use Rattle.layout.specs.Pages.{next_at}
use Rattle.hits.specs.Hit.{Test}
use Rattle.walk_steps.specs.declared.frame.Frame.{Frame}
use Rattle.walk_steps.specs.declared.place.Place.{Place}
use Rattle.walk_steps.specs.Given.{Given, given}
use Rattle.walk.specs.declared.batch.Batch.{Batch}
use Rattle.walk.specs.declared.batch.Rest.{Rest}
use Rattle.walk.specs.declared.batch.Rest.TheVariants as rest
use Rattle.walk.specs.Leaves.{Leaves, before}
use Rattle.walk.specs.Walk.{walk_from}
use Rattle.walk.specs.Batch.{links_of, from, still, Ready, Gives}
use Rattle.walk.proofs.Batches.{gives_more, gives-done, gives-broken}
use Rattle.meeting.specs.declared.Chains.{Chains}
use Rattle.meeting.specs.declared.Tally.{Tally}
use Rattle.meeting.specs.Meets.{Meets, met, broken as unmet, with_left, chains_of}
use Rattle.meeting.specs.Mets.{Tallied, Meeting}
use Rattle.meeting.specs.Chains.{base_of, Linked}
use Rattle.meeting.proofs.Linked.{linked-in}
use Rattle.traversal.specs.Meets.{walk_of, meet_block}
use Rattle.traversal.proofs.Going.{meeting-same, Going, going_start, going-broken, going-over, going-met, going-stop}
use Rattle.traversal.proofs.Pages.{chains_in, pages_from, pages-all, pages-met, pages-unmet}

-- more than the steps that are left
abbrev pub steps_of : Rest → ℕ
steps_of (rest.More p) = suc p.steps
steps_of (rest.Done nodes) = 0
steps_of rest.Broken = 0

-- the leaves from a batch on
abbrev pub coming_from : Given → List Frame → Batch → Leaves
coming_from w stack b = before (links_of b) (still w stack b.rest)

steps-less : (w : Given) (stack : List Frame) (steps : ℕ) (a : Rest) → Ready w stack steps a → steps_of a < suc steps
steps-less w stack steps (rest.More p) r = omega (arith, r.1)
steps-less w stack steps (rest.Done nodes) r = omega arith
steps-less w stack steps rest.Broken r = omega arith

-- the next batch has fewer
pub next-less : {w : Given} {stack : List Frame} {all : Leaves} (old : Rest) (p : Place) {new : Batch} → old ≡ rest.More p → Gives w stack all p.steps new
    → steps_of new.rest < steps_of old
next-less {w} {stack} old p {new} e g = rw e (steps-less w stack p.steps new.rest g.ready)

module _ (asked : Test) (words : ℕ) (h : Numbers) (P : List ℕ) (j : ℕ) (w : Given) where
  -- of the pages m some are met; a batch of leaves is given, and so many pages may be met in all that come
  pub record Walking (m : Meets) (map₀ map counts : List ℕ) (stack : List Frame) (tally : Tally) (batch : Batch) : Type 0 where
    pub coming : Leaves
    pub steps : ℕ
    pub gives : Gives w stack coming steps batch
    pub long : length batch.links ≡ 16
    pub going : Going asked words m map₀ map counts (pages_from h P j tally.left coming) tally.count

  pub walking_start : {all : Leaves} {steps : ℕ} {batch : Batch} (map counts : List ℕ) (stack : List Frame) (tally : Tally) → Gives w stack all steps batch → length batch.links ≡ 16
      → Tallied asked words map counts tally.count → Walking (pages_from h P j tally.left (coming_from w stack batch)) map map counts stack tally batch
  walking_start {steps = steps} {batch = batch} map counts stack tally g long e = record {
    coming = coming_from w stack batch;
    steps = steps;
    gives = record { few = g.few; same = refl; ready = g.ready };
    long = long;
    going = going_start asked words map counts (pages_from h P j tally.left (coming_from w stack batch)) tally.count e;
  }

  -- the chains of a batch are met
  module _ {m : Meets} {map₀ map counts : List ℕ} {stack : List Frame} {tally : Tally} {batch : Batch} (at : Walking m map₀ map counts stack tally batch)
      {cs : Chains} (linked : Linked (base_of (next_at h.pages j) 0) batch.links batch.n cs)
      {now counts' : List ℕ} {r : Option Tally} (call : Meeting asked words (chains_of P h.pages tally.left (take cs.n cs.each)) map now counts' r) where
    made : chains_of P h.pages tally.left (chains_in h P j (links_of batch)) ≡ chains_of P h.pages tally.left (take cs.n cs.each)
    made = ap (chains_of P h.pages tally.left) (sym (linked-in (next_at h.pages j) linked at.gives.few (omega (arith, at.gives.few, at.long))))

    pub walking-unmet : r ≡ None → Meeting asked words m map₀ now counts' None
    walking-unmet e =
        going-stop asked words at.going call e
        (λ q. ap (pages_from h P j tally.left) (sym at.gives.same) ∙ pages-unmet h P j tally.left (links_of batch) (made ∙ q) (still w stack batch.rest))

    module _ (t : Tally) (e : r ≡ Some t) where
      pub walking-next : (p : Place) → batch.rest ≡ rest.More p → {next : List Frame} {new : Batch} → Gives w next (from w stack p) p.steps new → length new.links ≡ 16
          → Walking m map₀ now counts' next t new
      walking-next p f g long = record {
        coming = from w stack p;
        steps = p.steps;
        gives = g;
        long = long;
        going =
            going-met asked words at.going call t e (pages_from h P j t.left (from w stack p))
            (λ ps q. ap (pages_from h P j tally.left) (gives_more at.gives p f) ∙ pages-met h P j tally.left (links_of batch) ps t.left (made ∙ q) (from w stack p));
      }

      pub walking-done : (nodes : ℕ) → batch.rest ≡ rest.Done nodes → Meeting asked words m map₀ now counts' (Some record { left = nodes; count = t.count })
      walking-done nodes f =
          going-over asked words
          (going-met asked words at.going call t e (met [] nodes)
          (λ ps q. ap (pages_from h P j tally.left) (gives-done at.gives nodes f) ∙ ap (with_left nodes) (made ∙ q) ∙ ap (λ qs. met qs nodes) (sym (append-nil ps))))
          nodes refl

      pub walking-broken : batch.rest ≡ rest.Broken → Meeting asked words m map₀ now counts' None
      walking-broken f =
          going-broken asked words
          (going-met asked words at.going call t e unmet (λ ps q. ap (pages_from h P j tally.left) (gives-broken at.gives f))) refl

-- the walk of block j with its bytes, from its first batch on
pub walked : (asked : Test) (words : ℕ) (h : Numbers) (N P x : List ℕ) (r j nodes : ℕ) {bytes : List ℕ} → bytes ≡ bytes_of_sketch (bare h) j x
    → {stack : List Frame} {steps : ℕ} {batch : Batch} → Gives (given N h.nodes h.b bytes) stack (walk_from (given N h.nodes h.b bytes) j r nodes) steps batch
    → {map₀ map counts : List ℕ} {a : Option Tally}
    → Meeting asked words (pages_from h P j h.pages (coming_from (given N h.nodes h.b bytes) stack batch)) map₀ map counts a
    → Meeting asked words (meet_block h N P x r j nodes) map₀ map counts a
unfolding meet_block
walked asked words h N P x r j nodes e g =
    meeting-same
    (ap (pages_from h P j h.pages) g.same
    ∙ ap (λ ys. pages_from h P j h.pages (walk_from (given N h.nodes h.b ys) j r nodes)) e
    ∙ sym (pages-all h P j N x (walk_from (walk_of h N P x j) j r nodes)))
