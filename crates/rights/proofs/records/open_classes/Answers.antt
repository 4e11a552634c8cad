-- `rights::open_classes` meets its contract. The loop's invariant: the set so far, with the groups that are left, is the whole set.
-- The measure is the word of the groups that are left.
use mathlib.Core.Path.{sym, ◌∙◌}
use Prim.Native.Nat.{◌<◌}
use native.Mathlib.Omega.{arith}
use Rattle.words.proofs.Bits.{lowest-lt, cut-lt}
use Rattle.rights.specs.Open.{with_group}
use Rattle.rights.proofs.Open.{groups_none, groups-step}
use Rattle.rights.proofs.records.open_classes.Goals as goal
use Rattle.rights.proofs.records.open_classes.Goals.{After-lowest_bit}

group-lt : (c : After-lowest_bit) → c.lowest_bit.result < 32
group-lt c =
    let loop = c.loop-groups in
    rw c.lowest_bit.ensures (lowest-lt loop.groups c.loop-groups-test.true loop.invariant.0)

pub bounds-ws-at : goal.bounds-ws-at
bounds-ws-at c = omega (arith, group-lt (goal.at.bounds-ws-at c).After-lowest_bit)

pub bounds-ws-at-in-loop-groups : goal.bounds-ws-at-in-loop-groups
bounds-ws-at-in-loop-groups c = omega (arith, group-lt (goal.at.bounds-ws-at-in-loop-groups c).After-lowest_bit)

pub loop-groups-smaller : goal.loop-groups-smaller
loop-groups-smaller c =
    let at = c in
    rw c.without_lowest-groups.ensures (cut-lt at.loop-groups.groups at.loop-groups-test.true at.loop-groups.invariant.0)

pub loop-groups-preserved : goal.loop-groups-preserved
unfolding with_group
loop-groups-preserved c =
    let at = c in
    let loop = at.loop-groups in
    rw (c.without_lowest-groups.ensures, c.lowest_bit.ensures) (
      omega (arith, cut-lt loop.groups at.loop-groups-test.true loop.invariant.0),
      sym (groups-step _ (record { low = loop.low; high = loop.high }) loop.groups at.loop-groups-test.true loop.invariant.0) ∙ loop.invariant.1,
    )

pub returns : goal.returns
returns c =
    let loop = c.loop-groups in
    sym (groups_none _ (record { low = loop.low; high = loop.high })) ∙ rw c.loop-groups-test.false at loop.invariant.1
