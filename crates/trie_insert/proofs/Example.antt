-- Computed: b 2, m 4, one block, four nodes and two pages. Page 0, 0 1 2 3, stands in the root; page 1, 0 1 3 2, is put in.
use Prim.Native.Nat.{ℕ}
use mathlib.Core.Path.{◌≡◌, refl}
use Rattle.std.specs.Prelude.{Ok}
use mathlib.Core.List.{List, [], ◌∷◌, ◌++◌}
use lib.ListN.{replicate}
use Rattle.meaning.specs.Sketch.{per_byte, packed_length, block_start, block_length}
use Rattle.meaning.specs.Ledger.{settings_given, Settings}
use Rattle.meaning.specs.Forest.{block_bytes}
use Rattle.layout.specs.States.{kind_of, count_of, longer}
use Rattle.blocks.specs.Packed.{row_byte, page_byte, level_at}
use Rattle.blocks.specs.RowBytes.{rows_of}
use Rattle.children.specs.Places.{find_place, place_from}
use Rattle.trie.specs.Model.{grown, link_leaf, fresh_leaf, child_leaf}
use Rattle.trie.specs.Descend.{step_to, descend, descend_to}
use Rattle.trie_insert.specs.Pages.{push_page, After, after, put_leaf_m}
use Rattle.trie_insert.specs.Split.{split_from, too_long, split_leaf, grow_leaf}
use Rattle.trie_insert.specs.Insert.{leaf_for, insert_page}

settings : Settings
settings = settings_given 2 4 1 2 4 []

-- chain words, states, heads: the root's state is given, and nodes 1, 2 and 3 are free
nodes : ℕ → List ℕ
nodes root = (0 ∷ 3 ∷ 4 ∷ 0 ∷ []) ++ (root ∷ 0 ∷ 0 ∷ 0 ∷ []) ++ replicate 32 0

-- the root inner, and a leaf for each page, with the bytes 180 and 228
parted : List ℕ
parted =
    (0 ∷ 94371840 ∷ 119537664 ∷ 0 ∷ []) ++ (65536 ∷ 65538 ∷ 65537 ∷ 0 ∷ [])
    ++ (0 ∷ 0 ∷ 0 ∷ 0 ∷ 0 ∷ 2 ∷ 0 ∷ 3 ∷ []) ++ replicate 24 0

-- live, signatures, links: page 1 links to page 0, or to none
pages : ℕ → List ℕ
pages link = 1 ∷ 0 ∷ 0 ∷ 0 ∷ 0 ∷ link ∷ []

answer : ℕ → ℕ → After
answer root threshold =
    insert_page (0 ∷ 1 ∷ 2 ∷ 3 ∷ 0 ∷ 1 ∷ 3 ∷ 2 ∷ []) (threshold ∷ []) (rows_of settings 0) 4 2 4 (nodes root) (pages 0) (180 ∷ []) 0 1 2

-- the root has one page, and two then: within a threshold of 2, and above one of 1
stays : answer 65537 2 ≡ after (nodes 131074) (pages 1) (Ok (grown 0 2))
unfolding answer nodes pages settings insert_page leaf_for grow_leaf push_page too_long longer kind_of count_of descend_to descend step_to rows_of block_bytes packed_length per_byte block_start block_length
stays = refl

parts : answer 65537 1 ≡ after parted (pages 0) (Ok (grown 0 4))
unfolding answer nodes parted pages settings insert_page leaf_for grow_leaf push_page too_long longer kind_of count_of descend_to descend step_to split_leaf split_from put_leaf_m child_leaf find_place place_from fresh_leaf link_leaf rows_of block_bytes packed_length per_byte block_start block_length level_at page_byte row_byte
parts = refl

-- a wrong number: 5 splits the leaf at a threshold of 5, and the numbers are right then; 65,535 stays
needless : (answer 327681 5 ≡ after parted (pages 0) (Ok (grown 0 4))) × (answer 4294901761 65535 ≡ after (nodes 4294901762) (pages 1) (Ok (grown 0 2)))
unfolding answer nodes parted pages settings insert_page leaf_for grow_leaf push_page too_long longer kind_of count_of descend_to descend step_to split_leaf split_from put_leaf_m child_leaf find_place place_from fresh_leaf link_leaf rows_of block_bytes packed_length per_byte block_start block_length level_at page_byte row_byte
needless = (refl, refl)
