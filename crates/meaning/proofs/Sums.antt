-- The one theorem of document 01's marked sums: the closed ones by computation.
use Prim.Native.Nat.{ℕ, ◌+◌, ◌≤◌}
use mathlib.Core.Path.{◌≡◌, refl}
use mathlib.Core.Bool.{Bool, true, false, cond, ◌&&◌, and-true}
use mathlib.Core.List.{List, [], ◌∷◌}
use native.Mathlib.Omega.{arith}
use lib.Dec.{ltb, leb, eqb}
use lib.ListN.{length}
use borrow.Author.Tests.{le-leb}
use Rattle.meaning.specs.Lists.{all, any, keep, count, grouped, onto, from, upto, sum}
use Rattle.meaning.specs.Refusal.{first_no}
use Rattle.meaning.specs.Sketch.{distance, in_range, per_byte, packed_length, pack_byte, pack_bytes, pack, group, symbols_at, packable, all_packable, unpack, byte_distance, block_length, block_start, block}
use Rattle.meaning.specs.SketchCalls.{sketch_limits, pack_number, unpack_number}
use Rattle.meaning.specs.Output.{nearest, listing}
use Rattle.meaning.specs.Rights.{open_to, stands, same_pair, write, changed}
use Rattle.meaning.specs.Trie.{fresh, push, put_leaf, byte_at, split, add_leaf, insert, nodes, met}
use Rattle.meaning.specs.Ledger.{Row, called_for, listed, ledger, step, accept, with_rows, with_register, put_row}
use Rattle.meaning.specs.Forest.{block_bytes, bytes_of_sketch, bytes_in, each_from, forest_after, forest, total_nodes, met_from}
use Rattle.meaning.specs.Questions.{asked}
use Rattle.meaning.specs.Sums.{MarkedSums, adds, nodes_of_adds, two_pages}

-- two sketches differ in no more places than either has
pub distance-le : (x y : List ℕ) → distance x y ≤ length y
unfolding distance
distance-le [] y = omega arith
distance-le (a ∷ x) [] = omega arith
distance-le (a ∷ x) (b ∷ y) = go (eqb a b) (distance-le x y)
  where
    go : (t : Bool) → distance x y ≤ length y → cond t 0 1 + distance x y ≤ length (b ∷ y)
    go true h = omega arith
    go false h = omega arith

keep-open : (opens : Row → Bool) (x : List ℕ) (rows : List Row) → keep (λ r. opens r && leb (distance r.sketch x) (length x)) rows ≡ keep opens rows
unfolding keep
keep-open opens x [] = refl
keep-open opens x (r ∷ rows) =
    rw (le-leb (distance r.sketch x) (length x) (distance-le r.sketch x), and-true (opens r), keep-open opens x rows)

too_far : (t : Bool) (n : ℕ) → cond (t && false) n 7 ≡ 7
too_far true n = refl
too_far false n = refl

pub marked-sums : MarkedSums
unfolding
    all any keep count grouped onto from upto sum first_no distance in_range per_byte packed_length pack_byte pack_bytes pack group symbols_at packable all_packable
    unpack byte_distance block_length block_start block sketch_limits pack_number unpack_number open_to stands same_pair write changed fresh push put_leaf byte_at split
    add_leaf insert nodes met nearest listing called_for listed ledger step accept with_rows with_register put_row block_bytes bytes_of_sketch bytes_in each_from
    forest_after forest total_nodes met_from asked adds nodes_of_adds two_pages
marked-sums = record {
  first-packs = refl;
  second-packs = refl;
  their-distance = refl;
  third-packs = refl;
  byte-64 = refl;
  symbol-3 = refl;
  symbol-4 = refl;
  lengths = refl;
  one-page = refl;
  two_bytes = refl;
  three-pages = refl;
  equal-pages = refl;
  found = refl;
  not_listed = refl;
  radius-m = λ L reader x. keep-open (λ r. open_to L.register reader r.class) x L.rows;
  radius-65 = λ L F reader x output. too_far (ltb reader 256) _;
}
