use mathlib.Core.Path.{◌≡◌}
use Prim.Native.Nat.{◌+◌, ◌-◌, ◌≤◌}
use lib.ListN.{length}
use Rattle.sketch.proofs.Places.{Counted}
use Rattle.comparison.proofs.Shapes.{Placed}
use Rattle.comparison.proofs.compare.Given as goal

abbrev pub invariant-loop-groups : goal.invariant-loop-groups
invariant-loop-groups l =
    (l.i + l.groups ≡ l.initial.i + l.initial.groups) × (l.left ≤ l.radius) × Counted l.row l.query (l.radius - l.left) l.i

abbrev pub decreases-loop-groups : goal.decreases-loop-groups
decreases-loop-groups l = l.groups

abbrev pub invariant-bytes : goal.invariant-bytes
invariant-bytes l =
    Placed l.shape (length l.row) l.k l.i × (l.left ≤ l.radius) × Counted l.row l.query (l.radius - l.left) l.i

abbrev pub decreases-bytes : goal.decreases-bytes
decreases-bytes l = l.shape.bytes - l.k
