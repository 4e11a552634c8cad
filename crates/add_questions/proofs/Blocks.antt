-- How many nodes a page needs in the trie of block j, over the block's part of an array of bytes.
use Prim.Native.Nat.{ℕ}
use mathlib.Core.Path.{◌≡◌, refl}
use mathlib.Core.List.{List}
use lib.ListN.{take}
use Rattle.meaning.specs.Forest.{block_bytes, bytes_of_sketch}
use Rattle.layout.specs.declared.Numbers.{Numbers}
use Rattle.layout.specs.declared.Block.{Block}
use Rattle.layout.specs.Header.{bare, with_thresholds}
use Rattle.blocks.specs.declared.Rows.{Rows}
use Rattle.blocks.specs.RowBytes.{rows_of, block_of}
use Rattle.trie_room.specs.Needs.{nodes_needed}
use Rattle.add_laws.specs.Room.{block_needs}

module _ (h : Numbers) (τ S x : List ℕ) (j : ℕ) (N P : List ℕ) (b : Block) (e : b ≡ block_of (bare h) j) (r : Rows) (f : r ≡ rows_of (bare h) j)
    (bytes : List ℕ) (g : take (block_bytes (bare h) j) bytes ≡ bytes_of_sketch (bare h) j x) where
  pub needs-block : nodes_needed P S τ b.pages b.base r (take r.bytes bytes) N b.nodes j ≡ block_needs (with_thresholds h τ) N P S x j
  unfolding block_needs rows_of block_bytes bytes_of_sketch
  needs-block = rw (e, f, g) refl
