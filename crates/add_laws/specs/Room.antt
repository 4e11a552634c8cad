-- How many nodes an add needs, and whether so many are free. N is the node table, P the page table, S the sketch table, x the sketch.
use Rattle.std.specs.Prelude.{ℕ, zero, suc, ◌+◌, List, Option, Some, None, Result, Err}
use Rattle.meaning.specs.Ledger.{Settings}
use Rattle.meaning.specs.Forest.{bytes_of_sketch}
use Rattle.layout.specs.Pages.{next_at}
use Rattle.trie.specs.declared.Stop.{Stop}
use Rattle.trie.specs.declared.Stop.TheVariants.{Broken}
use Rattle.trie.specs.Model.{span_from}
use Rattle.blocks.specs.RowBytes.{rows_of}
use Rattle.trie_room.specs.Needs.{nodes_needed}

-- the sum of k answers from j on, and a number besides; broken where one is
abbrev pub on_nodes : (ℕ → Option ℕ) → Option ℕ → Option ℕ
on_nodes go (Some n) = go n
on_nodes go None = None

unfoldable pub needed_from : (ℕ → Option ℕ) → ℕ → ℕ → ℕ → Option ℕ
needed_from f a j zero = Some a
needed_from f a j (suc k) = on_nodes (λ n. needed_from f (a + n) (suc j) k) (f j)

abbrev pub where_free : (ℕ → Result (Unit {0}) Stop) → Option ℕ → Result (Unit {0}) Stop
where_free go (Some n) = go n
where_free go None = Err Broken

module _ (s : Settings) (N P S x : List ℕ) where
  -- the trie of block j
  unfoldable pub block_needs : ℕ → Option ℕ
  block_needs j =
      nodes_needed P S s.thresholds s.pages (next_at s.pages j) (rows_of s j) (bytes_of_sketch s j x) N s.nodes j

  unfoldable pub all_needed : Option ℕ
  all_needed = needed_from block_needs 0 0 s.blocks

  -- are so many free, from the free link on?
  unfoldable pub room_of : ℕ → Result (Unit {0}) Stop
  room_of free = where_free (span_from N s.nodes free) all_needed
