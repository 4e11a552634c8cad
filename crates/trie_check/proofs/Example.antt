-- A trie of one block that passes the test, and damages of one word that do not: the definitions say what they should.
use Rattle.std.specs.Prelude.{Option, Some, None}
use Prim.Native.Nat.{ℕ}
use native.Mathlib.Omega.{arith}
use mathlib.Core.Path.{◌≡◌, refl}
use mathlib.Core.List.{List, [], ◌∷◌, ◌++◌}
use lib.ListN.{set, replicate}
use Rattle.meaning.specs.Lists.{all, upto, from}
use Rattle.meaning.specs.Sketch.{per_byte, packed_length, symbols_at, packable}
use Rattle.words.specs.Bits.{bit, with_bit, flag, with_flag}
use Rattle.layout.specs.Nodes.{chain_word, free_state, inner_state, empty_state, leaf_state, state_at, head_at}
use Rattle.layout.specs.Pages.{is_live}
use Rattle.layout.specs.States.{kind_of as stated, count_of}
use Rattle.layout.specs.declared.Block.{Block}
use Rattle.blocks.specs.declared.Rows.{Rows}
use Rattle.blocks.specs.Packed.{row_byte, page_byte, level_at}
use Rattle.node_check.specs.declared.mark.Window.{Window}
use Rattle.node_check.specs.Mark.{mark_once}
use Rattle.node_check.specs.Leaf.{kind_of, on_path, test_pages, test_leaf}
use Rattle.children.specs.Order.{bare, entered, step_along, next_child}
use Rattle.node_check.specs.Frame.{step_in}
use Rattle.node_check.specs.Given.{given, Readable, Fitting}
use Rattle.trie_visit.specs.Visit.{visit_child, visit}
use Rattle.trie_check.specs.Trie.{left_if, run, test_below, test_trie}

-- three symbols of 8 bits, a byte each; 6 nodes, 3 pages
block : Block
block = record { nodes = 6; pages = 3; base = 6 }

rows : Rows
rows = record { bits = 8; symbols = 3; start = 0; length = 3; per = 1; bytes = 3 }

-- pages 0 and 1 begin with 1 5, page 2 with 7 2
sketches : List ℕ
sketches = 1 ∷ 5 ∷ 0 ∷ 1 ∷ 5 ∷ 9 ∷ 7 ∷ 2 ∷ 4 ∷ []

-- all live, in class 0; page 1 is after page 0
pages : List ℕ
pages = 1 ∷ 1 ∷ 1 ∷ 0 ∷ 0 ∷ 0 ∷ 2 ∷ 0 ∷ 0 ∷ []

-- Root 0 has nodes 1 (byte 1) and 2 (byte 7). Node 1 has leaf 3 (byte 5), of pages 0 and 1, and node 4 (byte 6), inner with no child.
-- Node 2 has leaf 5 (byte 2), of page 2.
nodes : List ℕ
nodes =
    (0 ∷ chain_word 1 3 ∷ chain_word 7 0 ∷ chain_word 5 5 ∷ chain_word 6 0 ∷ chain_word 2 0 ∷ [])
    ++ (inner_state ∷ inner_state ∷ inner_state ∷ leaf_state 2 1 ∷ inner_state ∷ leaf_state 1 3 ∷ [])
    ++ (2 ∷ replicate 7 0)
    ++ (4 ∷ replicate 7 0)
    ++ (6 ∷ replicate 7 0)
    ++ replicate 24 0

window : Window
window = record { from = 0; size = 6 }

-- the tables fit
readable : Readable (given nodes pages sketches block rows window)
unfolding block rows sketches pages nodes window packed_length per_byte
readable = record {
  nodes = record { long = omega arith; small = omega arith };
  pages = record { long = omega arith; small = omega arith };
  behind = omega arith;
  rows = record { long = omega arith; inside = omega arith; narrow = omega arith; few = omega arith; short = omega arith; fits = omega arith };
  bits = (omega arith, omega arith);
  symbols = omega arith;
  bytes = refl;
  some = omega arith;
}

fits : Fitting (given nodes pages sketches block rows window) (0 ∷ [])
unfolding window
fits = record { readable = readable; bitmap = omega arith }

-- the answer for a window, a node table and a page table, with so many nodes allowed and so many pages wanted
answer_in : Window → List ℕ → List ℕ → ℕ → ℕ → Option ℕ
answer_in w N P left live = (test_trie (given N P sketches block rows w) 0 (0 ∷ []) left live).answer

answer : List ℕ → List ℕ → ℕ → ℕ → Option ℕ
answer = answer_in window

-- sound: 6 nodes and 3 pages, no fewer and no more
sound : List (Option ℕ)
sound = answer nodes pages 6 3 ∷ answer nodes pages 7 3 ∷ answer nodes pages 5 3 ∷ answer nodes pages 6 4 ∷ answer nodes pages 6 2 ∷ []

-- page 2 in two leaves, page 1 after itself, page 0 not live
page_damages : List (Option ℕ)
page_damages = answer (set nodes (state_at 6 3) (leaf_state 3 1)) (set pages 7 3) 6 4 ∷ answer nodes (set pages 7 2) 6 3 ∷ answer nodes (set pages 0 0) 6 3 ∷ []

-- siblings 1 and 0, siblings 1 and 1, a leaf of byte 3 for a page of byte 2, node 4 below nodes 1 and 2, a link past the last node
chain_damages : List (Option ℕ)
chain_damages =
    answer (set nodes 2 (chain_word 0 0)) pages 6 3
    ∷ answer (set nodes 2 (chain_word 1 0)) pages 6 3
    ∷ answer (set nodes 5 (chain_word 3 0)) pages 6 3
    ∷ answer (set nodes 5 (chain_word 2 5)) pages 7 3
    ∷ answer (set nodes 5 (chain_word 2 7)) pages 7 3
    ∷ []

-- leaf 5 empty, node 4 free, a leaf with a head, a head with something above its link
node_damages : List (Option ℕ)
node_damages =
    answer (set nodes (state_at 6 5) empty_state) pages 6 2
    ∷ answer (set nodes (state_at 6 4) free_state) pages 6 3
    ∷ answer (set nodes (head_at 6 5 3) 1) pages 6 3
    ∷ answer (set nodes (head_at 6 2 0) (chain_word 1 6)) pages 6 3
    ∷ []

-- the answer for a root alone, with a state and no page
root_alone : ℕ → Option ℕ
root_alone state = answer (replicate 6 0 ++ (state ∷ replicate 53 0)) pages 1 0

-- the number of leaf 3's pages one too high, one too low; that of leaf 5's one too high, one too low, which is 0; a number in a
-- root without pages
count_damages : List (Option ℕ)
count_damages =
    answer (set nodes (state_at 6 3) (leaf_state 3 1)) pages 6 3
    ∷ answer (set nodes (state_at 6 3) (leaf_state 1 1)) pages 6 3
    ∷ answer (set nodes (state_at 6 5) (leaf_state 2 3)) pages 6 3
    ∷ answer (set nodes (state_at 6 5) 3) pages 6 3
    ∷ root_alone 196608
    ∷ []

-- node 4 below nodes 1 and 2, but outside the window: left to another walk
outside : Option ℕ
outside = answer_in (record { from = 0; size = 4 }) (set nodes 5 (chain_word 2 5)) pages 7 3

tried : sound ++ page_damages ++ chain_damages ++ node_damages ++ count_damages ++ (outside ∷ root_alone empty_state ∷ []) ≡ (Some 0 ∷ Some 1 ∷ replicate 20 None) ++ (Some 0 ∷ Some 0 ∷ [])
unfolding block rows sketches pages nodes window answer_in answer sound page_damages chain_damages node_damages root_alone count_damages outside test_trie test_below run left_if visit visit_child step_in next_child step_along entered test_leaf test_pages on_path kind_of stated count_of bare mark_once level_at page_byte row_byte is_live with_flag flag with_bit bit packable symbols_at per_byte from upto all
tried = refl
