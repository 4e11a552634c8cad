-- A search as its contract has it, and tables with other nodes.
use Rattle.std.specs.Prelude.{ℕ, List}
use Rattle.meaning.specs.Output.{Output}
use Rattle.promises.specs.Tables.{Tables, tables}
use Rattle.promises.specs.Readings.{SearchPromise}
use Rattle.search_laws.specs.Answer.{AnsweredBy}

abbrev pub with_nodes : Tables → List ℕ → Tables
with_nodes T N = tables T.settings N T.pages T.sketches T.working

-- what a search leaves: its number, the count given, the two lists and the working table
pub record SearchLeft : Type 0 where
  pub number : ℕ
  pub count : ℕ
  pub output : Output
  pub working : List ℕ

-- both promises of `search`
pub record Searched (T : Tables) (reader radius : ℕ) (x : List ℕ) (before : Output) (r : SearchLeft) : Type 0 where
  pub promise : SearchPromise T reader radius x before r.number r.count r.output r.working
  pub model : AnsweredBy T reader radius x before r.number r.count r.output
