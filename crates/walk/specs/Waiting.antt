-- Leaves that wait until the descents that lead to them are over.
use Rattle.std.specs.Prelude.{ℕ, ◌<◌, ◌≡◌, cond, List, ltb, length, get_or, take, Option, Some, None}
use Rattle.descent.specs.declared.Cursor.{Cursor}
use Rattle.descent.specs.Cursor.{ended, drawn_all, left_of}
use Rattle.walk_steps.specs.declared.place.Place.{Place}
use Rattle.walk_steps.specs.Given.{Given, leaf_from}
use Rattle.walk_steps.specs.Place.{with_nodes}
use Rattle.walk.specs.declared.batch.Rest.{Rest}
use Rattle.walk.specs.declared.batch.Rest.TheVariants.{More, Done, Broken}
use Rattle.walk.specs.declared.batch.Batch.{Batch}

-- what is left of a walk by what the descents left of the nodes; it is over unless all places of the array are taken
abbrev pub rest_of : ℕ → Place → Option ℕ → Rest
rest_of n p (Some nodes) = cond (ltb n 16) (Done nodes) (More (with_nodes p nodes))
rest_of n p None = Broken

-- the nodes that descents read
abbrev pub drawn_by : Given → List Cursor → ℕ
drawn_by w cs = drawn_all w.nodes w.cap w.bytes cs

-- what the first n descents of an array leave at a place
abbrev pub left_by : Given → List Cursor → ℕ → Place → Option ℕ
left_by w cs n p = left_of p.nodes (drawn_by w (take n cs))

-- the batch of these n leaves
pub record Settled (w : Given) (cs : List Cursor) (n : ℕ) (p : Place) (r : Batch) : Type 0 where
  pub count : r.n ≡ n
  pub long : length r.links ≡ 16
  pub each : (k : ℕ) → left_by w cs n p ≡ Some k → (j : ℕ) → j < n → get_or r.links j 0 ≡ leaf_from w (get_or cs j (ended 0))
  pub rest : r.rest ≡ rest_of n p (left_by w cs n p)
