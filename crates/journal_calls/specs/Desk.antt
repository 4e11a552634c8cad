-- The tables that a desk holds, and that it holds the same ones.
use Rattle.std.specs.Prelude.{◌≡◌, length}
use Rattle.lent.specs.Lists.{SameTables, SameLists}
use Rattle.promises.specs.Tables.{Tables, tables}
use Rattle.journal_calls.specs.declared.desk.Desk.{Desk}

abbrev pub tables_of : Desk → Tables
tables_of d = tables d.index.settings.now d.index.nodes.now d.index.pages.now d.sketches.now d.working.now

-- the same tables and lists are lent, as long as they were
pub record SameDesk (s t : Desk) : Type 0 where
  pub index : SameTables s.index t.index
  pub sketches : t.sketches.ghost_name ≡ s.sketches.ghost_name
  pub working : t.working.ghost_name ≡ s.working.ghost_name
  pub sketches-long : length t.sketches.now ≡ length s.sketches.now
  pub working-long : length t.working.now ≡ length s.working.now
  pub lists : SameLists s.lists t.lists
