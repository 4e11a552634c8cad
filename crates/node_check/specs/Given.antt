-- What the test of one block's trie goes by.
use Rattle.std.specs.Prelude.{ℕ, ◌*◌, ◌<◌, ◌≤◌, ◌≡◌, List, length}
use Rattle.meaning.specs.Sketch.{packed_length}
use Rattle.sketch.specs.Settings.{Bits}
use Rattle.layout.specs.declared.Block.{Block}
use Rattle.layout.specs.Tables.{NodeTable, PageTable}
use Rattle.blocks.specs.declared.Rows.{Rows}
use Rattle.blocks.specs.Tables.{RowTable}
use Rattle.node_check.specs.declared.mark.Window.{Window}

-- the tables, the block, its rows, and the nodes that the map has bits for
pub record Given : Type 0 where
  pub nodes : List ℕ
  pub pages : List ℕ
  pub sketches : List ℕ
  pub block : Block
  pub rows : Rows
  pub window : Window

abbrev pub given : List ℕ → List ℕ → List ℕ → Block → Rows → Window → Given
given nodes pages sketches block rows window =
    record { nodes = nodes; pages = pages; sketches = sketches; block = block; rows = rows; window = window }

-- the tables are long enough, and the rows are those of a block
pub record Readable (w : Given) : Type 0 where
  pub nodes : NodeTable w.block.nodes w.nodes
  pub pages : PageTable w.block.pages w.block.base w.pages
  pub behind : w.block.pages ≤ w.block.base
  pub rows : RowTable w.block.pages w.rows w.sketches
  pub bits : Bits w.rows.bits
  pub symbols : w.rows.length ≤ 64
  pub bytes : w.rows.bytes ≡ packed_length w.rows.bits w.rows.length
  pub some : 0 < w.rows.bytes

-- and the map has a bit for each node of the window
pub record Fitting (w : Given) (map : List ℕ) : Type 0 where
  pub readable : Readable w
  pub bitmap : w.window.size ≤ 32 * length map
