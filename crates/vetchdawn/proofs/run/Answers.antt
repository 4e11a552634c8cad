-- The program's tables are as long as `Roomy` asks, and its lists have a place for every page, so that a run on them is complete.
use borrow.Author.Rules.{rules}
use Rattle.journal_turns.proofs.Runs.{completes}
use Rattle.vetchdawn.proofs.run.Goals as goal

pub returns-clause-completed : goal.returns-clause-completed
returns-clause-completed c =
    completes (record { settings = search rules; nodes = search rules; pages = search rules; sketches = search rules; working = search rules }) (search rules, search rules) c.run_on.ensures.ended
