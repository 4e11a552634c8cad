-- What a walk goes by, and the leaf that a descent leads to.
use Rattle.std.specs.Prelude.{ℕ, ◌-◌, ◌<◌, ◌≤◌, List, length}
use Rattle.sketch.specs.Settings.{Bits}
use Rattle.layout.specs.Tables.{NodeTable}
use Rattle.descent.specs.declared.Cursor.{Cursor}
use Rattle.descent.specs.Cursor.{arrive, descended, drawn, leaf_of}

-- the node table, its capacity, b, the query's bytes
pub record Given : Type 0 where
  pub nodes : List ℕ
  pub cap : ℕ
  pub b : ℕ
  pub bytes : List ℕ

abbrev pub given : List ℕ → ℕ → ℕ → List ℕ → Given
given nodes cap b bytes = record { nodes = nodes; cap = cap; b = b; bytes = bytes }

-- the table is long enough, and the bytes are those of a block
pub record Fitting (w : Given) : Type 0 where
  pub nodes : NodeTable w.cap w.nodes
  pub b : Bits w.b
  pub some : 0 < length w.bytes
  pub bytes : length w.bytes ≤ 64

module _ (w : Given) where
  -- where the query's bytes from a level on lead from node x
  abbrev pub exact_from : ℕ → ℕ → Cursor
  exact_from x level = arrive w.nodes w.cap w.bytes x level (length w.bytes - 1)

  -- the leaf at the end of a descent, by the link to its first page
  abbrev pub leaf_from : Cursor → ℕ
  leaf_from c = leaf_of (descended w.nodes w.cap w.bytes w.cap c)

  -- the nodes that the descent reads
  abbrev pub drawn_from : Cursor → ℕ
  drawn_from c = drawn w.nodes w.cap w.bytes w.cap c
