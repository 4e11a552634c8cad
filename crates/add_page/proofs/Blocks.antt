-- A page put into the trie of block j, over the block's part of an array of bytes.
use Prim.Native.Nat.{ℕ}
use mathlib.Core.Path.{◌≡◌, refl}
use mathlib.Core.List.{List}
use lib.ListN.{take}
use Rattle.meaning.specs.Forest.{block_bytes, bytes_of_sketch}
use Rattle.layout.specs.declared.Numbers.{Numbers}
use Rattle.layout.specs.declared.Block.{Block}
use Rattle.layout.specs.Header.{bare, with_thresholds}
use Rattle.blocks.specs.declared.Rows.{Rows}
use Rattle.blocks.specs.RowBytes.{rows_of, block_of}
use Rattle.trie_insert.specs.Insert.{insert_page}
use Rattle.add_laws.specs.Insert.{insert_block}

module _ (h : Numbers) (τ S x : List ℕ) (j : ℕ) (N P : List ℕ) (b : Block) (e : b ≡ block_of (bare h) j) (r : Rows) (f : r ≡ rows_of (bare h) j)
    (bytes : List ℕ) (g : take (block_bytes (bare h) j) bytes ≡ bytes_of_sketch (bare h) j x) where
  pub insert-one : (p free : ℕ) →
      insert_page S τ r b.nodes b.pages b.base N P (take r.bytes bytes) j p free ≡ insert_block (with_thresholds h τ) S x p j N P free
  unfolding insert_block rows_of block_bytes bytes_of_sketch
  insert-one p free = rw (e, f, g) refl
