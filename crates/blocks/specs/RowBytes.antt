-- What belongs to block j of a page: where its trie lies, where its symbols stand in a row, and its packed bytes.
use Rattle.std.specs.Prelude.{ℕ, ◌%◌, ◌^◌, List, map}
use Rattle.meaning.specs.Sketch.{per_byte, block_start, block_length}
use Rattle.meaning.specs.Ledger.{Settings}
use Rattle.meaning.specs.Forest.{block_bytes, bytes_of_sketch}
use Rattle.layout.specs.Pages.{next_at, row_of}
use Rattle.layout.specs.declared.Block.{Block}
use Rattle.blocks.specs.declared.Rows.{Rows}

unfoldable pub reduced : ℕ → List ℕ → List ℕ
reduced b xs = map (λ x. x % 2 ^ b) xs

-- the packed bytes of page p in block j
unfoldable pub row_bytes : Settings → ℕ → List ℕ → ℕ → List ℕ
row_bytes s j sketches p = bytes_of_sketch s j (reduced s.bits (row_of s.symbols sketches p))

-- where the symbols of block j stand in a row
unfoldable pub rows_of : Settings → ℕ → Rows
rows_of s j = record {
  bits = s.bits;
  symbols = s.symbols;
  start = block_start s.symbols s.blocks j;
  length = block_length s.symbols s.blocks j;
  per = per_byte s.bits;
  bytes = block_bytes s j;
}

-- where the trie of block j lies
abbrev pub block_of : Settings → ℕ → Block
block_of s j = record { nodes = s.nodes; pages = s.pages; base = next_at s.pages j }
