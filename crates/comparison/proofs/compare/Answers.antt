-- `compare` is the verdict on the distance. At place i the places before it are counted: as many differ as the radius has lost.
use mathlib.Core.Path.{◌≡◌}
use mathlib.Core.Logic.{inl, inr}
use Prim.Native.Nat.{◌+◌, ◌-◌, ◌≤◌}
use native.Mathlib.Omega.{arith}
use lib.ListN.{length}
use Rattle.sketch.proofs.Places.{counted_none}
use Rattle.comparison.proofs.Shapes.{Groups, placed-start, groups-inside, placed-next}
use Rattle.comparison.proofs.compare.Goals as goal
use Rattle.comparison.proofs.compare.Goals.{Joined-k-shape-2, else-k-shape-2, then-k-shape-2}

-- the groups of the byte
groups_of : (c : Joined-k-shape-2) →
    let at-bytes = c in
    Groups at-bytes.args.shape at-bytes.bytes.k c.if-k-shape-2.groups
groups_of c = elim c.if-k-shape-2.branch [ then-k-shape-2 w ↦ inl (w.if-k-shape-2.true, w.groups-is) | else-k-shape-2 w ↦ inr (w.if-k-shape-2.false, w.groups-is) ]

-- they end inside the row
ends : (c : Joined-k-shape-2) →
    let at-bytes = c in
    at-bytes.bytes.i + c.if-k-shape-2.groups ≤ length at-bytes.args.row.now
ends c =
    let at-bytes = c in
    groups-inside _ _ at-bytes.requires.shaped at-bytes.bytes.invariant.0 c.if-k-shape.false (groups_of c)

pub bytes-init : goal.bytes-init
bytes-init c =
    let all : c.args.radius - c.args.radius ≡ 0 = omega arith in
    (placed-start _ _ c.requires.shaped, omega arith, rw all (counted_none c.args.row.now c.args.query.now))

pub bytes-preserved : goal.bytes-preserved
bytes-preserved c =
    let loop = c in
    let joined = loop in
    let at-bytes = joined in
    let all : loop.loop-groups.i ≡ at-bytes.bytes.i + joined.if-k-shape-2.groups = omega arith in
    (rw all (placed-next _ _ at-bytes.requires.shaped at-bytes.bytes.invariant.0 joined.if-k-shape.false (groups_of (goal.at.bytes-preserved joined).Joined-k-shape-2)), loop.loop-groups.invariant.1, loop.loop-groups.invariant.2)

pub bounds-row-i : goal.bounds-row-i
bounds-row-i c = omega (arith, ends (goal.at.bounds-row-i c).Joined-k-shape-2)

pub bounds-query-i : goal.bounds-query-i
bounds-query-i c = omega (arith, ends (goal.at.bounds-query-i c).Joined-k-shape-2)

pub overflow_add-i : goal.overflow_add-i
overflow_add-i c = omega (arith, ends (goal.at.overflow_add-i c).Joined-k-shape-2)
