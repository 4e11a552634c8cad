-- What a call is told by the questions ahead of the tries: the opening, or the number of the first "no".
use Rattle.layout.specs.declared.Numbers.{Numbers}
use Rattle.std.specs.Prelude.{ℕ, [], Result}
use Rattle.meaning.specs.Ledger.{Call}
use Rattle.promises.specs.Tables.{Tables}
use Rattle.promises.specs.Answers.{number}
use Rattle.entry.specs.Entry.{told_by}

unfoldable pub admission : Tables → Call → Result Numbers ℕ
admission T c = told_by T (number T [] c)
