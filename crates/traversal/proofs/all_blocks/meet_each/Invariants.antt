use Prim.Native.Nat.{◌-◌, ◌<◌}
use Rattle.layout.specs.Headers.{numbers}
use Rattle.hits.specs.Trials.{tried}
use Rattle.traversal.specs.Meets.{meet_from}
use Rattle.traversal.proofs.Going.{Going}
use Rattle.traversal.proofs.all_blocks.meet_each.Given as goal

abbrev pub invariant-loop-j : goal.invariant-loop-j
invariant-loop-j l =
    let h = (numbers l.quest.trial.probe.header) in
    Going (tried l.quest.trial) l.quest.words (meet_from h l.quest.nodes.now l.quest.trial.pages.now l.quest.trial.query.now l.radius h.q 0 l.initial.tally.left) l.initial.map l.map l.counts
    (meet_from h l.quest.nodes.now l.quest.trial.pages.now l.quest.trial.query.now l.radius (h.q - l.j) l.j l.tally.left) l.tally.count
    × (l.tally.left < h.nodes)
