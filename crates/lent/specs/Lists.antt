-- The lists that lent tables hold.
use Rattle.std.specs.Prelude.{ℕ, ◌≡◌, List, [], length}
use Rattle.promises.specs.Tables.{Tables, tables}
use Rattle.meaning.specs.Output.{Output, output}
use Rattle.lent.specs.declared.Index.{Index}
use Rattle.lent.specs.declared.Lists.{Lists}
use Rattle.lent.specs.declared.View.{View}

-- those that a change may write, with the sketch table; it takes no working table
abbrev pub lists : Index → List ℕ → Tables
lists ix sketches = tables ix.settings.now ix.nodes.now ix.pages.now sketches []

-- those of a reading, with no working table, and with one
abbrev pub held : View → Tables
held v = tables v.settings.now v.nodes.now v.pages.now v.sketches.now []

abbrev pub held_with : View → List ℕ → Tables
held_with v working = tables v.settings.now v.nodes.now v.pages.now v.sketches.now working

-- the same tables are lent, as long as they were
pub record SameTables (s t : Index) : Type 0 where
  pub settings : t.settings.ghost_name ≡ s.settings.ghost_name
  pub nodes : t.nodes.ghost_name ≡ s.nodes.ghost_name
  pub pages : t.pages.ghost_name ≡ s.pages.ghost_name
  pub settings-long : length t.settings.now ≡ length s.settings.now
  pub nodes-long : length t.nodes.now ≡ length s.nodes.now
  pub pages-long : length t.pages.now ≡ length s.pages.now

-- what the two lists of a search hold
abbrev pub output_of : Lists → Output
output_of l = output l.pages.now l.distances.now

-- the same lists are lent, as long as they were
pub record SameLists (s t : Lists) : Type 0 where
  pub pages : t.pages.ghost_name ≡ s.pages.ghost_name
  pub distances : t.distances.ghost_name ≡ s.distances.ghost_name
  pub pages-long : length t.pages.now ≡ length s.pages.now
  pub distances-long : length t.distances.now ≡ length s.distances.now
