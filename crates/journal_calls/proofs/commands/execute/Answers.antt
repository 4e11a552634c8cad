-- `execute` makes the call of the command: each case is the call's own promise.
use Rattle.journal.specs.Steps.{meant}
use Rattle.journal_calls.proofs.Executes.{open-executed, add-executed, drop-executed, change-executed, search-executed}
use Rattle.journal_calls.proofs.commands.execute.Goals as goal

pub returns-in-Open-clause-executed : goal.returns-in-Open-clause-executed
unfolding meant
returns-in-Open-clause-executed c =
    rw c.in-Open.is
    (open-executed _ _ _ c.uncounted.ensures.number c.uncounted.ensures.count _ _ _ _ _ _ _ c.open_levels.ensures.open_promise)

pub returns-in-Add-clause-executed : goal.returns-in-Add-clause-executed
unfolding meant
returns-in-Add-clause-executed c =
    rw (c.in-Add.is, ← c.symbols_at-x.ensures)
    (add-executed _ _ _ c.uncounted-in-Add.ensures.number c.uncounted-in-Add.ensures.count _ _ _ _ _ _ _ c.add.ensures.add_promise)

pub returns-in-Drop-clause-executed : goal.returns-in-Drop-clause-executed
unfolding meant
returns-in-Drop-clause-executed c =
    rw c.in-Drop.is
    (drop-executed _ _ _ c.uncounted-in-Drop.ensures.number c.uncounted-in-Drop.ensures.count _ _ _ _ c.drop_page.ensures.drop_promise)

pub returns-in-Register-clause-executed : goal.returns-in-Register-clause-executed
unfolding meant
returns-in-Register-clause-executed c =
    rw c.in-Register.is
    (change-executed _ _ _ c.uncounted-in-Register.ensures.number c.uncounted-in-Register.ensures.count _ _ c.change_register.ensures)

pub returns-in-Search-clause-executed : goal.returns-in-Search-clause-executed
unfolding meant
returns-in-Search-clause-executed c =
    rw (c.in-Search.is, ← c.symbols_at-x-in-Search.ensures)
    (search-executed _ _ _ _ _ _ _ _ _ c.search_in.ensures.search_promise c.search_in.ensures.same.pages-long c.search_in.ensures.same.distances-long)
