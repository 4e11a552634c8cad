-- The packed bytes of a block: of a sketch, and of a page's row. How many, and that each is a byte.
use Prim.Native.Nat.{ℕ, ◌+◌, ◌*◌, ◌≤◌, ◌<◌}
use native.Mathlib.Omega.{arith}
use mathlib.Core.Path.{◌≡◌}
use mathlib.Core.Bool.{true}
use mathlib.Core.List.{List}
use lib.ListN.{length, get_or, take, drop, length-take, length-drop, length-map}
use lib.Seq.{take_at}
use Rattle.meaning.specs.Lists.{onto}
use Rattle.meaning.specs.Sketch.{in_range, block, block_start, block_length}
use Rattle.meaning.specs.Ledger.{Settings}
use Rattle.meaning.specs.Forest.{block_bytes, bytes_of_sketch}
use Rattle.layout.specs.Pages.{row_of}
use Rattle.layout.proofs.Rows.{length-row}
use Rattle.sketch.proofs.BlockEnds.{block-ends}
use Rattle.sketch.proofs.Places.{part-range}
use Rattle.sketch_laws.proofs.Packing.{pack-length, packed-most, pack-byte}
use Rattle.blocks.specs.RowBytes.{reduced, row_bytes}
use Rattle.blocks.proofs.RowBytes.{reduced-range}

module _ (s : Settings) (j : ℕ) (h : j < s.blocks) where
  pub bytes_most : block_bytes s j ≤ s.symbols
  unfolding block_bytes
  bytes_most =
      omega (arith, packed-most s.bits (block_length s.symbols s.blocks j), block-ends s.symbols s.blocks j h)

  module _ (x : List ℕ) (long : length x ≡ s.symbols) where
    pub block-length : length (block s.symbols s.blocks j x) ≡ block_length s.symbols s.blocks j
    unfolding block
    block-length = simp (length-take, length-drop) (omega (arith, block-ends s.symbols s.blocks j h))

    pub bytes-length : length (bytes_of_sketch s j x) ≡ block_bytes s j
    unfolding bytes_of_sketch block_bytes
    bytes-length =
        pack-length s.bits (block_length s.symbols s.blocks j) (block s.symbols s.blocks j x) block-length

    pub bytes-first : (out : List ℕ) → take (block_bytes s j) (onto (bytes_of_sketch s j x) out) ≡ bytes_of_sketch s j x
    unfolding onto
    bytes-first out =
        take_at (bytes_of_sketch s j x) (drop (length (bytes_of_sketch s j x)) out) (block_bytes s j) bytes-length

pub octets : (s : Settings) (x : List ℕ) → in_range s.bits x ≡ true → (j k : ℕ) → get_or (bytes_of_sketch s j x) k 0 < 256
unfolding bytes_of_sketch block
octets s x range j k =
    pack-byte s.bits k (block s.symbols s.blocks j x)
    (part-range s.bits (block_start s.symbols s.blocks j) (block_length s.symbols s.blocks j) x range)

-- ---- of a page's row
module _ (s : Settings) (S : List ℕ) (p : ℕ) where
  pub row-length : p * s.symbols + s.symbols ≤ length S → (j : ℕ) → j < s.blocks → length (row_bytes s j S p) ≡ block_bytes s j
  unfolding row_bytes reduced
  row-length inside j l =
      bytes-length s j l (reduced s.bits (row_of s.symbols S p)) (simp length-map (length-row s.symbols S p inside))

  pub row-octets : (j k : ℕ) → get_or (row_bytes s j S p) k 0 < 256
  unfolding row_bytes
  row-octets = octets s (reduced s.bits (row_of s.symbols S p)) (reduced-range s.bits (row_of s.symbols S p))
