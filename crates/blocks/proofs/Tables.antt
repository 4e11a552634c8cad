-- The tables of an opening have room for each block: as the functions on one trie, and on rows, ask for it.
use Prim.Native.Nat.{ℕ, ◌+◌, ◌≤◌, ◌<◌}
use native.Mathlib.Omega.{arith}
use mathlib.Core.Path.{◌≡◌}
use mathlib.Core.List.{List}
use lib.ListN.{length}
use Rattle.meaning.specs.Ledger.{Settings}
use Rattle.layout.specs.declared.Numbers.{Numbers}
use Rattle.layout.specs.declared.Block.{Block}
use Rattle.layout.specs.Header.{header_of, bare}
use Rattle.layout.specs.Limits.{HeaderLimits}
use Rattle.layout.specs.Lengths.{nodes_length, pages_length, sketches_length}
use Rattle.layout.specs.Pages.{next_at}
use Rattle.layout.specs.Tables.{Lent}
use Rattle.layout.proofs.Rows.{rows_apart}
use Rattle.blocks.specs.declared.Rows.{Rows}
use Rattle.blocks.specs.Tables.{RowTable, InTables, Roomy}
use Rattle.blocks.specs.RowBytes.{rows_of, block_of}
use Rattle.blocks.proofs.RowBytes.{rows-table}

-- the links of block j end before those of the next begin
pub links-high : (s : Settings) (j : ℕ) → j < s.blocks → next_at s.pages j + s.pages ≤ pages_length s
unfolding pages_length
links-high s j l = let behind : 2 + j < 2 + s.blocks = omega arith in rows_apart s.pages behind

-- the rows
pub rows_in : (h : Numbers) → HeaderLimits h → (S : List ℕ) → sketches_length (bare h) ≤ length S → (j : ℕ) → j < h.q → (r : Rows) → r ≡ rows_of (bare h) j →
    RowTable h.pages r S
unfolding sketches_length
rows_in h limits S long j l r e = rw e (rows-table (bare h) j l h.pages S (omega (arith, limits)) limits.symbols-most long)

-- all blocks
pub roomy : (s : Settings) (N P S : List ℕ) → Lent (header_of s) N P S → Roomy s N P
unfolding nodes_length pages_length
roomy s N P S lent = record {
  nodes = record { long = lent.nodes-long; small = lent.limits.nodes-most };
  pages = λ j l. record { long = omega (arith, links-high s j l, lent.pages-long); small = lent.limits.pages-most };
}

-- block j
module _ (h : Numbers) (N P S : List ℕ) (lent : Lent h N P S) (j : ℕ) (l : j < h.q) where
  pub in_tables : (b : Block) → b ≡ block_of (bare h) j → (r : Rows) → r ≡ rows_of (bare h) j → InTables N P S j b r
  in_tables b e r f =
      let room : Roomy (bare h) N P = roomy (bare h) N P S lent in
      rw e (record {
        nodes = room.nodes;
        pages = room.pages j l;
        rows = rows_in h lent.limits S lent.sketches-long j l r f;
        root = omega (arith, lent.limits.nodes-least);
      })

-- other tables of the same lengths
pub lent-kept : (h : Numbers) (N P S N' P' : List ℕ) → Lent h N P S → length N' ≡ length N → length P' ≡ length P → Lent h N' P' S
lent-kept h N P S N' P' lent e f = record {
  limits = lent.limits;
  nodes-long = omega (arith, lent.nodes-long);
  pages-long = omega (arith, lent.pages-long);
  sketches-long = lent.sketches-long;
}
