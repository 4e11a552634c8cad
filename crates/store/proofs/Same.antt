-- Tables left as they were.
use mathlib.Core.Path.{refl}
use Rattle.promises.specs.Tables.{Tables}
use Rattle.promises.specs.Store.{SameRest, Unfinished}

pub same_tables : (T : Tables) → SameRest T T
same_tables T = record {
  settings = refl;
  nodes = refl;
  pages = refl;
  sketches = refl;
  working = refl;
  settings-front = refl;
  settings-rest = refl;
  nodes-rest = refl;
  pages-rest = refl;
}

pub same-stopped : (T : Tables) → Unfinished T T
same-stopped T = record { settings = refl; pages = refl }
