-- The trie of block j without a page, over the block's part of an array of bytes.
use Prim.Native.Nat.{ℕ}
use mathlib.Core.Path.{◌≡◌, refl}
use mathlib.Core.List.{List}
use lib.ListN.{take}
use Rattle.meaning.specs.Forest.{block_bytes}
use Rattle.layout.specs.declared.Numbers.{Numbers}
use Rattle.layout.specs.declared.Block.{Block}
use Rattle.layout.specs.Header.{bare}
use Rattle.blocks.specs.declared.Rows.{Rows}
use Rattle.blocks.specs.RowBytes.{row_bytes, rows_of, block_of}
use Rattle.trie_remove.specs.Remove.{remove_page}
use Rattle.drop_laws.specs.Removal.{remove_block}

pub remove-one : (h : Numbers) (S : List ℕ) (p j : ℕ) (N P : List ℕ) (free : ℕ) (b : Block) → b ≡ block_of (bare h) j → (r : Rows) → r ≡ rows_of (bare h) j →
    (bytes : List ℕ) → take (block_bytes (bare h) j) bytes ≡ row_bytes (bare h) j S p →
    remove_page N P b.nodes b.pages b.base j (take r.bytes bytes) p free ≡ remove_block (bare h) S p j N P free
unfolding remove_block rows_of
remove-one h S p j N P free b e r f bytes g = rw (e, f, g) refl
