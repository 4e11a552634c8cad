-- What a command that was carried out writes, and m behind it.
use Rattle.std.specs.Prelude.{ℕ, cond, List, [], eqb, take}
use Rattle.meaning.specs.Output.{Output, output}
use Rattle.meaning.specs.Journal.{Command, if_search, search_line, refusal_line}
use Rattle.meaning.specs.Ledger.{if_opening}
use Rattle.promises.specs.Relation.{Answer}
use Rattle.journal_answers.specs.Answers.{made}

-- m after a command: an opening gives it
unfoldable pub symbols_after : Command → ℕ → ℕ
symbols_after c m = if_opening (made (output [] []) c) (λ s. s.symbols) m

-- both lists, cut to a count
abbrev pub cut : ℕ → Output → Output
cut n o = output (take n o.pages) (take n o.distances)

-- what an accepted command writes
unfoldable pub accepted_line : Command → Answer → List ℕ
accepted_line c a = if_search c (λ r. search_line r (cut a.count a.output)) []

-- what a command at an offset writes: a refused one its E line
unfoldable pub line_of : ℕ → Command → Answer → List ℕ
line_of at c a = cond (eqb a.number 0) (accepted_line c a) (refusal_line at a.number)
