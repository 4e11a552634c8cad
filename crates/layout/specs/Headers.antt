-- The numbers of a header.
use Rattle.std.specs.Prelude.{Result, Ok, Err}
use Rattle.meaning.specs.Ledger.{Settings}
use Rattle.layout.specs.declared.Numbers.{Numbers}
use Rattle.layout.specs.Header.{bare}
use Rattle.layout.specs.declared.Header.{Header}

abbrev pub numbers : Header → Numbers
numbers h = record { b = h.b; m = h.m; q = h.q; pages = h.pages; nodes = h.nodes }

-- the settings of a header without thresholds: no length hangs on them
abbrev pub given_by : Header → Settings
given_by h = bare (numbers h)

-- the numbers of the header in an answer
abbrev pub numbers_in : {E : Type 0} → Result Header E → Result Numbers E
numbers_in (Ok h) = Ok (numbers h)
numbers_in (Err e) = Err e
