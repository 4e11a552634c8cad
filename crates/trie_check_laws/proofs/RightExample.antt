-- An example: a leaf with a page below a root, which the test finds sound, and what it then says of the tables.
use Rattle.std.specs.Prelude.{Some}
use Prim.Native.Nat.{ℕ, zero, suc, ◌+◌}
use native.Mathlib.Omega.{arith}
use mathlib.Core.Path.{◌≡◌, refl}
use mathlib.Core.List.{List, [], ◌∷◌}
use Rattle.meaning.specs.Lists.{all, from, upto}
use Rattle.meaning.specs.Sketch.{per_byte, symbols_at, packable, packed_length}
use Rattle.meaning.specs.Trie.{nodes, byte_at}
use Rattle.words.specs.Bits.{bit, with_bit, flag, with_flag}
use Rattle.layout.specs.Pages.{is_live}
use Rattle.layout.specs.States.{kind_of as stated, count_of}
use Rattle.children.specs.Phys.{Phys, tree}
use Rattle.blocks.specs.Packed.{row_byte, page_byte, level_at}
use Rattle.node_check.specs.Mark.{mark_once}
use Rattle.node_check.specs.Leaf.{kind_of, on_path, test_pages, test_leaf}
use Rattle.children.specs.Order.{bare, entered, step_along, next_child}
use Rattle.node_check.specs.Frame.{step_in}
use Rattle.node_check.specs.Given.{Given, given, Readable, Fitting}
use Rattle.trie_visit.specs.Visit.{visit_child, visit}
use Rattle.trie_check.specs.Trie.{tested, run, left_if, test_below, test_trie}
use Rattle.trie_check_laws.specs.Found.{Reads, Found, Marked}
use Rattle.trie_check_laws.proofs.RightTrie.{test-right}

-- nodes 0 and 1, the second with byte 228 in the last chain of the first, a leaf with one page
abbrev node_table : List ℕ
node_table =
    0 ∷ 119537664 ∷ 65536 ∷ 65537 ∷
    0 ∷ 0 ∷ 0 ∷ 0 ∷ 0 ∷ 0 ∷ 0 ∷ 2 ∷
    0 ∷ 0 ∷ 0 ∷ 0 ∷ 0 ∷ 0 ∷ 0 ∷ 0 ∷ []

-- page 0, with the symbols 0 1 2 3 of two bits
abbrev w : Given
w =
    given node_table (1 ∷ 0 ∷ 0 ∷ []) (0 ∷ 1 ∷ 2 ∷ 3 ∷ [])
    (record { nodes = 2; pages = 1; base = 2 })
    (record { bits = 2; symbols = 4; start = 0; length = 4; per = 4; bytes = 1 })
    (record { from = 0; size = 2 })

pub example : test_trie w 0 (0 ∷ []) 2 1 ≡ tested (3 ∷ []) (Some 0)
unfolding test_trie test_below run visit visit_child left_if entered step_in next_child step_along kind_of stated count_of bare on_path test_pages test_leaf mark_once is_live page_byte row_byte level_at
    flag with_flag bit with_bit packable symbols_at per_byte all upto from
example = refl

readable : Readable w
unfolding packed_length per_byte
readable = record {
  nodes = record { long = omega arith; small = omega arith };
  pages = record { long = omega arith; small = omega arith };
  behind = omega arith;
  rows = record {
    long = omega arith;
    inside = omega arith;
    narrow = omega arith;
    few = omega arith;
    short = omega arith;
    fits = omega arith;
  };
  bits = (omega arith, omega arith);
  symbols = omega arith;
  bytes = refl;
  some = omega arith;
}

fits : Fitting w (0 ∷ [])
fits = record { readable = readable; bitmap = omega arith }

abbrev bytes_of : ℕ → List ℕ
bytes_of p = 228 ∷ []

reads : Reads w bytes_of
unfolding byte_at page_byte row_byte level_at
reads zero zero l m = refl
reads zero (suc k) l m = absurd (omega arith)
reads (suc p) k l m = absurd (omega arith)

pub found : (t : Phys) × Found w bytes_of 0 1 t × Marked w t (0 ∷ []) (3 ∷ []) × (0 + nodes (tree t) ≡ 2)
found = test-right w bytes_of 0 2 1 (0 ∷ []) (3 ∷ []) 0 fits reads (omega arith) example
