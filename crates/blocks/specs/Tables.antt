-- The sketch table is long enough for the rows of a page table, and a block's symbols lie in its rows; the tables of one block, and of all.
use Rattle.std.specs.Prelude.{ℕ, ◌+◌, ◌*◌, ◌≤◌, ◌<◌, List, length}
use Rattle.meaning.specs.Ledger.{Settings}
use Rattle.layout.specs.declared.Block.{Block}
use Rattle.layout.specs.Pages.{next_at}
use Rattle.layout.specs.Tables.{NodeTable, PageTable}
use Rattle.blocks.specs.declared.Level.{Level}
use Rattle.blocks.specs.declared.Rows.{Rows}

-- a table with a row of symbols for each page, in which a level's symbols lie and fit a byte
pub record SketchTable (pcap : ℕ) (v : Level) (S : List ℕ) : Type 0 where
  pub long : pcap * v.symbols ≤ length S
  pub inside : v.from + v.count ≤ v.symbols
  pub narrow : v.bits ≤ 8
  pub fits : v.bits * v.count ≤ 8

-- a table with a row for each page, in which a block's symbols lie, and as many as are packed to a byte fit one. A clause beside the
-- value: its first part ties it to a lent table, so that each function would still ask it if the rest stood in the type
pub record RowTable (pcap : ℕ) (r : Rows) (S : List ℕ) : Type 0 where
  pub long : pcap * r.symbols ≤ length S
  pub inside : r.start + r.length ≤ r.symbols
  pub narrow : r.bits ≤ 8
  pub few : r.per ≤ 8
  pub short : r.bytes ≤ 64
  pub fits : r.bits * r.per ≤ 8

-- the tables of block j, whose trie is b and whose rows are r
pub record InTables (N P S : List ℕ) (j : ℕ) (b : Block) (r : Rows) : Type 0 where
  pub nodes : NodeTable b.nodes N
  pub pages : PageTable b.pages b.base P
  pub rows : RowTable b.pages r S
  pub root : j < b.nodes

-- the links of each block lie in a page table that has room for all
pub record Roomy (s : Settings) (N P : List ℕ) : Type 0 where
  pub nodes : NodeTable s.nodes N
  pub pages : (j : ℕ) → j < s.blocks → PageTable s.pages (next_at s.pages j) P
