-- A walk in batches: what one gives, and what it leaves of the walk.
use Rattle.std.specs.Prelude.{ℕ, suc, ◌<◌, ◌≤◌, ◌≡◌, List, [], length, take, replicate}
use Rattle.layout.specs.Nodes.{steps_for}
use Rattle.walk_steps.specs.declared.frame.Frame.{Frame}
use Rattle.walk_steps.specs.declared.place.Place.{Place}
use Rattle.walk_steps.specs.Given.{Given}
use Rattle.walk_steps.specs.Stack.{frames, Within, AllWithin}
use Rattle.walk.specs.declared.batch.Rest.{Rest}
use Rattle.walk.specs.declared.batch.Rest.TheVariants.{More, Done, Broken}
use Rattle.walk.specs.declared.batch.Batch.{Batch}
use Rattle.walk.specs.Leaves.{Leaves, leaves, broken, before}
use Rattle.walk.specs.Walk.{state, run}

-- a batch without leaves
abbrev pub bare : Rest → Batch
bare rest = record { links = replicate 16 0; n = 0; rest = rest }

-- the links of a batch
abbrev pub links_of : Batch → List ℕ
links_of r = take r.n r.links

module _ (w : Given) (stack : List Frame) where
  -- what a walk gives from a place on
  abbrev pub from : Place → Leaves
  from p = run w p.steps p.nodes (state p.frame (frames stack p.depth))

  -- what is still to come
  abbrev pub still : Rest → Leaves
  still (More p) = from p
  still (Done nodes) = leaves [] nodes
  still Broken = broken

  -- a place and the stack are in order: frames in the table, a level of the query's bytes, and fewer nodes to read than there are
  pub record Standing (p : Place) : Type 0 where
    pub here : Within w.cap p.frame
    pub over : AllWithin w.cap (frames stack p.depth)
    pub room : length stack ≡ 64
    pub level : p.depth < length w.bytes
    pub few : p.nodes < w.cap

  -- the place where a walk goes on is in order, and has fewer steps to go than so many
  abbrev pub Ready : ℕ → Rest → Type 0
  Ready steps (More p) = Standing p × (p.steps < steps)
  Ready steps (Done nodes) = Unit {0}
  Ready steps Broken = Unit {0}

  -- a batch gives the first leaves of what was to come
  pub record Gives (all : Leaves) (steps : ℕ) (r : Batch) : Type 0 where
    pub few : r.n ≤ 16
    pub same : before (links_of r) (still r.rest) ≡ all
    pub ready : Ready steps r.rest

-- the first batch, with any stack
abbrev pub Begins : Given → Leaves → Batch → Type 0
Begins w all r = (stack : List Frame) → length stack ≡ 64 → Gives w stack all (suc (steps_for w.cap)) r
