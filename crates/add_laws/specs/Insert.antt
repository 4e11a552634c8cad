-- A page put into the trie of each block in turn. N is the node table, P the page table, S the sketch table, x the page's sketch.
use Rattle.std.specs.Prelude.{ℕ, zero, suc, List, Option, Some, None, Ok, Err}
use Rattle.meaning.specs.Ledger.{Settings}
use Rattle.meaning.specs.Forest.{bytes_of_sketch}
use Rattle.layout.specs.Pages.{next_at}
use Rattle.trie_insert.specs.Pages.{After, after}
use Rattle.trie_insert.specs.Insert.{insert_page}
use Rattle.blocks.specs.RowBytes.{rows_of}

-- both tables and the answer
pub data Filled : Type 0 where
  filled : List ℕ → List ℕ → Option ℕ → Filled

abbrev pub on_insert : (List ℕ → List ℕ → ℕ → Filled) → After → Filled
on_insert go (after N P (Ok g)) = go N P g.free
on_insert go (after N P (Err e)) = filled N P None

module _ (s : Settings) (S x : List ℕ) (p : ℕ) where
  -- block j
  unfoldable pub insert_block : ℕ → List ℕ → List ℕ → ℕ → After
  insert_block j N P free =
      insert_page S s.thresholds (rows_of s j) s.nodes s.pages (next_at s.pages j) N P (bytes_of_sketch s j x) j p free

  -- k blocks from j on
  unfoldable pub insert_from : ℕ → ℕ → List ℕ → List ℕ → ℕ → Filled
  insert_from zero j N P free = filled N P (Some free)
  insert_from (suc k) j N P free = on_insert (λ N' P' free'. insert_from k (suc j) N' P' free') (insert_block j N P free)

  unfoldable pub insert_all : List ℕ → List ℕ → ℕ → Filled
  insert_all = insert_from s.blocks 0
