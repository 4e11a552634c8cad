use Rattle.layout.specs.Headers.{numbers}
use Rattle.hits.specs.Trials.{tried}
use Rattle.walk_steps.specs.Walks.{given_of}
use Rattle.traversal.proofs.Pages.{pages_from}
use Rattle.traversal.proofs.Batches.{steps_of, coming_from, Walking}
use Rattle.traversal.proofs.all_blocks.meet_block.Given as goal

abbrev pub invariant-loop-tally : goal.invariant-loop-tally
invariant-loop-tally l =
    let h = (numbers l.quest.trial.probe.header) in
    let w = given_of l.walk in
    Walking (tried l.quest.trial) l.quest.words h l.quest.trial.pages.now l.j w
    (pages_from h l.quest.trial.pages.now l.j l.initial.tally.left (coming_from w l.initial.stack l.initial.batch)) l.initial.map l.map l.counts l.stack l.tally l.batch

abbrev pub decreases-loop-tally : goal.decreases-loop-tally
decreases-loop-tally l = steps_of l.batch.rest
