-- The tables of block j, as the test of one trie asks for them.
use Prim.Native.Nat.{ℕ, ◌*◌, ◌/◌, ◌≤◌, ◌<◌}
use native.Mathlib.Omega.{arith}
use native.Mathlib.Nat.{div-add-mod', mod-lt}
use native.Mathlib.Decide.{dec_lt}
use mathlib.Core.Path.{◌≡◌, refl}
use mathlib.Core.Logic.{by_cases}
use mathlib.Core.List.{List}
use lib.ListN.{length}
use Rattle.meaning.specs.Sketch.{block_length}
use Rattle.meaning.specs.Ledger.{Settings}
use Rattle.meaning.specs.Forest.{block_bytes}
use Rattle.layout.specs.Lengths.{sketches_length}
use Rattle.layout.specs.declared.Block.{Block}
use Rattle.layout.specs.Header.{header_of}
use Rattle.layout.specs.Tables.{Lent}
use Rattle.sketch.specs.Settings.{Bits}
use Rattle.sketch.proofs.Width.{byte_of}
use Rattle.sketch.proofs.BlockEnds.{block-ends}
use Rattle.blocks.specs.declared.Rows.{Rows}
use Rattle.blocks.specs.RowBytes.{rows_of, block_of}
use Rattle.blocks.proofs.RowBytes.{rows-table}
use Rattle.blocks.proofs.Tables.{roomy}
use Rattle.node_check.specs.declared.mark.Window.{Window}
use Rattle.node_check.specs.Given.{given, Readable, Fitting}
use Rattle.trie_check.specs.Trie.{test_trie}
use Rattle.check_tries.specs.Windows.{block_given}

-- each block has a symbol
block-some : (m q j : ℕ) → 0 < q → q ≤ m → 0 < block_length m q j
unfolding block_length
block-some m q j some fits =
    by_cases (dec_lt 0 (m / q)) (λ l. omega arith)
    (λ l. let z : m / q ≡ 0 = omega arith in absurd (omega (arith, rw z at (div-add-mod' m q), mod-lt m some)))

module _ (s : Settings) (N P S : List ℕ) (lent : Lent (header_of s) N P S) where
  bits : Bits s.bits
  bits = (omega (arith, lent.limits.bits-least), lent.limits.bits_most)

  module _ (j : ℕ) (l : j < s.blocks) where
    bytes-some : 0 < block_bytes s j
    unfolding block_bytes
    bytes-some =
        byte_of s.bits (block_length s.symbols s.blocks j) 0 bits
        (omega (arith, block-some s.symbols s.blocks j (omega (arith, lent.limits.blocks-least)) lent.limits.blocks-fit))

    readable : (w : Window) → Readable (block_given s N P S w j)
    unfolding block_given sketches_length rows_of block_bytes
    readable w = record {
      nodes = (roomy s N P S lent).nodes;
      pages = (roomy s N P S lent).pages j l;
      behind = omega arith;
      rows = rows-table s j l s.pages S bits lent.limits.symbols-most lent.sketches-long;
      bits = bits;
      symbols = omega (arith, block-ends s.symbols s.blocks j l, lent.limits.symbols-most);
      bytes = refl;
      some = bytes-some;
    }

    pub fitting : (w : Window) (map : List ℕ) → w.size ≤ 32 * length map → Fitting (block_given s N P S w j) map
    unfolding block_given
    fitting w map room = record { readable = readable w; bitmap = room }

    -- the block and its rows, as the code reads them
    pub readable-block : (b : Block) → b ≡ block_of s j → (r : Rows) → r ≡ rows_of s j → (w : Window) → Readable (given N P S b r w)
    unfolding block_given
    readable-block b e r f w = rw (e, f) (readable w)

    pub root-inside : j < s.nodes
    root-inside = omega (arith, lent.limits.nodes-least)

pub tested-block : (s : Settings) (N P S : List ℕ) (j : ℕ) (b : Block) → b ≡ block_of s j → (r : Rows) → r ≡ rows_of s j → (w : Window) (map : List ℕ) (left live : ℕ) →
    test_trie (given N P S b r w) j map left live ≡ test_trie (block_given s N P S w j) j map left live
unfolding block_given
tested-block s N P S j b e r f w map left live = rw (e, f) refl
