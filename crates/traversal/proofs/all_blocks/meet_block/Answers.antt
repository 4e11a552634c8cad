-- `meet_block`: the walk's leaves come in batches, and the pages of each batch are met before the walk goes on.
use mathlib.Core.Path.{◌≡◌, refl}
use native.Mathlib.Omega.{arith}
use borrow.Author.Rules.{rules}
use lib.ListN.{length}
use Rattle.layout.specs.Headers.{numbers}
use Rattle.std.specs.Prelude.{Some, None}
use Rattle.layout.specs.Pages.{next_at}
use Rattle.meeting.specs.Chains.{base_of, Linked}
use Rattle.meeting.proofs.Linked.{linked-from, inside-in}
use Rattle.traversal.proofs.Tables.{links-inside, fitting}
use Rattle.traversal.proofs.Batches.{walking_start, walking-unmet, walking-next, walking-done, walking-broken, walked}
use Rattle.traversal.proofs.all_blocks.meet_block.Goals as goal
use Rattle.traversal.proofs.all_blocks.meet_block.Goals.{After-begin-batch, After-chains_of-cs, After-next-batch}

begin-long : (c : After-begin-batch) → length c.begin-batch.result.links ≡ 16
begin-long c = search rules

-- the chains of a batch
linked : (c : After-chains_of-cs) → Linked (base_of (next_at c.args.quest.now.trial.probe.header.pages c.args.start.block) 0) c.loop-tally.batch.links c.loop-tally.batch.n c.chains_of-cs.result
linked c = linked-from _ _ _ c.next_at-base.ensures c.chains_of-cs.ensures

next-long : (c : After-next-batch) → length c.next-batch.result.links ≡ 16
next-long c = search rules

pub invariant_of-walk : goal.invariant_of-walk
invariant_of-walk c =
    let trial = c.args.quest.now.trial in
    record { fitting = fitting (numbers trial.probe.header) trial.fitting.limits _ _ c.args.quest.now.nodes_long trial.fitting.query _ c.requires.block_lt_q.0 _ c.pack-packed.ensures.same }

pub loop-tally-init : goal.loop-tally-init
loop-tally-init c = walking_start _ _ _ _ _ _ _ _ _ _ (c.begin-batch.ensures _ refl) (begin-long (goal.at.loop-tally-init c).After-begin-batch) c.requires.tallied

pub meet-requires-clause-inside : goal.meet-requires-clause-inside
meet-requires-clause-inside c =
    inside-in _ (linked (goal.at.meet-requires-clause-inside c).After-chains_of-cs) c.loop-tally.invariant.gives.few _ _
    (links-inside (numbers c.args.quest.now.trial.probe.header) _ c.args.quest.now.trial.fitting.pages _ c.requires.block_lt_q.0)

pub returns-in_err-tally : goal.returns-in_err-tally
returns-in_err-tally c =
    let none : c.meet.result ≡ None = grind arith in
    let up : c.from_residual.result ≡ None = grind arith in
    rw up (walked _ _ _ _ _ _ _ _ _ c.pack-packed.ensures.same (c.begin-batch.ensures _ refl)
    (walking-unmet _ _ _ _ _ _ c.loop-tally.invariant (linked (goal.at.returns-in_err-tally c).After-chains_of-cs) c.meet.ensures none))

pub loop-tally-preserved : goal.loop-tally-preserved
loop-tally-preserved c =
    let some : c.meet.result ≡ Some c.in_ok-tally.tally = grind arith in
    walking-next _ _ _ _ _ _ c.loop-tally.invariant (linked (goal.at.loop-tally-preserved c).After-chains_of-cs) c.meet.ensures _ some _ c.in-More.is c.next-batch.ensures (next-long (goal.at.loop-tally-preserved c).After-next-batch)

pub returns-in-Done : goal.returns-in-Done
returns-in-Done c =
    let some : c.meet.result ≡ Some c.in_ok-tally.tally = grind arith in
    walked _ _ _ _ _ _ _ _ _ c.pack-packed.ensures.same (c.begin-batch.ensures _ refl)
    (walking-done _ _ _ _ _ _ c.loop-tally.invariant (linked (goal.at.returns-in-Done c).After-chains_of-cs) c.meet.ensures _ some _ c.in-Done.is)

pub returns-in-Broken : goal.returns-in-Broken
returns-in-Broken c =
    let some : c.meet.result ≡ Some c.in_ok-tally.tally = grind arith in
    walked _ _ _ _ _ _ _ _ _ c.pack-packed.ensures.same (c.begin-batch.ensures _ refl)
    (walking-broken _ _ _ _ _ _ c.loop-tally.invariant (linked (goal.at.returns-in-Broken c).After-chains_of-cs) c.meet.ensures _ some c.in-Broken.is)
