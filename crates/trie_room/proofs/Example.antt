-- Computed: b 2, m 4, one block, threshold 1, four nodes and two pages (document 01, "Small sums"). Page 0, 0 1 2 3, stands in the root.
use Rattle.std.specs.Prelude.{Option, Some, None}
use Prim.Native.Nat.{ℕ}
use mathlib.Core.Path.{◌≡◌, refl}
use mathlib.Core.List.{List, [], ◌∷◌, ◌++◌}
use lib.ListN.{replicate}
use Rattle.meaning.specs.Sketch.{per_byte, packed_length, block_start, block_length}
use Rattle.meaning.specs.Ledger.{settings_given, Settings}
use Rattle.meaning.specs.Forest.{block_bytes}
use Rattle.layout.specs.States.{kind_of, count_of}
use Rattle.blocks.specs.Packed.{row_byte, page_byte, level_at}
use Rattle.trie_laws.specs.Needed.{distinct_from}
use Rattle.trie.specs.Descend.{step_to, descend, descend_to}
use Rattle.leaf_bytes.specs.Chains.{chain_from}
use Rattle.leaf_bytes.specs.Bytes.{distinct_bytes}
use Rattle.blocks.specs.RowBytes.{rows_of}
use Rattle.trie_room.specs.Needs.{gap_needs, leaf_needs, nodes_needed}

settings : Settings
settings = settings_given 2 4 1 2 4 []

-- chain words, states, heads: the root has one page, page 0, and nodes 1, 2 and 3 are free
nodes : List ℕ
nodes = (0 ∷ 3 ∷ 4 ∷ 0 ∷ []) ++ (65537 ∷ 0 ∷ 0 ∷ 0 ∷ []) ++ replicate 32 0

-- live, class, links
pages : ℕ → List ℕ
pages link = 1 ∷ 0 ∷ 0 ∷ 0 ∷ link ∷ 0 ∷ []

sketches : List ℕ
sketches = 0 ∷ 1 ∷ 2 ∷ 3 ∷ 0 ∷ 0 ∷ 0 ∷ 0 ∷ []

answer : ℕ → ℕ → ℕ → Option ℕ
answer link threshold byte = nodes_needed (pages link) sketches (threshold ∷ []) 2 4 (rows_of settings 0) (byte ∷ []) nodes 4 0

-- another byte: two children; the same byte: one; below the threshold: none; a chain that leaves the table, or does not end
sums : (answer 0 1 180 ≡ Some 2) × (answer 0 1 228 ≡ Some 1) × (answer 0 2 180 ≡ Some 0) × (answer 3 1 180 ≡ None) × (answer 1 1 180 ≡ None)
unfolding answer nodes pages sketches settings nodes_needed kind_of count_of descend_to descend step_to leaf_needs distinct_bytes chain_from level_at rows_of block_bytes packed_length per_byte block_start block_length page_byte row_byte distinct_from
sums = (refl, refl, refl, refl, refl)

-- a new leaf at level 1 splits at once where the threshold there is 0 and there is a byte
gaps : (gap_needs (1 ∷ 0 ∷ []) 2 1 ≡ 2) × (gap_needs (1 ∷ 0 ∷ []) 1 1 ≡ 1) × (gap_needs (0 ∷ 1 ∷ []) 2 1 ≡ 1)
unfolding gap_needs
gaps = (refl, refl, refl)
