-- A command of a journal, carried out on the program's tables.
use Rattle.std.specs.Prelude.{ℕ, ◌≤◌, ◌≡◌, length}
use Rattle.meaning.specs.Output.{Output}
use Rattle.meaning.specs.Journal.{Command, if_search}
use Rattle.promises.specs.Tables.{Tables}
use Rattle.promises.specs.Relation.{Promised}
use Rattle.journal_answers.specs.Answers.{made, answer}

-- the two lists of searches after a command
unfoldable pub found_after : Command → Output → Output → Output
found_after c o found = if_search c (λ r. o) found

-- a command, carried out on the tables T with these two lists
pub record Executed (c : Command) (T : Tables) (found : Output) (number count : ℕ) (T' : Tables) (found' : Output) : Type 0 where
  pub promised : Promised (made found c) T (answer number count found') T'
  pub output : found' ≡ found_after c found' found
  -- what an accepted search lists lies inside both
  pub inside : number ≡ 0 → (count ≤ length found'.pages) × (count ≤ length found'.distances)
