-- A page taken out of the trie of each block in turn. N is the node table, P the page table, S the sketch table.
use Rattle.std.specs.Prelude.{ℕ, zero, suc, List, Some, None}
use Rattle.meaning.specs.Ledger.{Settings}
use Rattle.layout.specs.Pages.{next_at}
use Rattle.blocks.specs.RowBytes.{row_bytes}
use Rattle.trie_remove.specs.Remove.{Gone, gone, remove_page}

abbrev pub on_removed : (List ℕ → List ℕ → ℕ → Gone) → Gone → Gone
on_removed go (gone N P (Some free)) = go N P free
on_removed go (gone N P None) = gone N P None

module _ (s : Settings) (S : List ℕ) (p : ℕ) where
  -- block j, along the bytes of the page's row
  unfoldable pub remove_block : ℕ → List ℕ → List ℕ → ℕ → Gone
  remove_block j N P free = remove_page N P s.nodes s.pages (next_at s.pages j) j (row_bytes s j S p) p free

  -- k blocks from j on
  unfoldable pub remove_from : ℕ → ℕ → List ℕ → List ℕ → ℕ → Gone
  remove_from zero j N P free = gone N P (Some free)
  remove_from (suc k) j N P free = on_removed (λ N' P' free'. remove_from k (suc j) N' P' free') (remove_block j N P free)

  unfoldable pub remove_all : List ℕ → List ℕ → ℕ → Gone
  remove_all = remove_from s.blocks 0
