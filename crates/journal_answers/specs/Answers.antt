-- The call that a command of a journal makes on the program's tables, and its answer.
use Rattle.std.specs.Prelude.{ℕ, true, []}
use Rattle.meaning.specs.Output.{Output}
use Rattle.meaning.specs.Journal.{Command, call_of}
use Rattle.meaning.specs.Ledger.{Call}
use Rattle.promises.specs.Relation.{Answer}

-- the program's capacities
abbrev pub page_capacity : ℕ
page_capacity = 512

abbrev pub node_capacity : ℕ
node_capacity = 1024

-- the call that a command makes: `found` has the two lists of searches
abbrev pub made : Output → Command → Call
made found c = call_of page_capacity node_capacity found c

-- a number, a count and the two lists afterwards
abbrev pub answer : ℕ → ℕ → Output → Answer
answer number count o = record { number = number; count = count; output = o; row = []; yes = true }
