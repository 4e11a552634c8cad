-- The loop over the blocks that sums the nodes needed.
use Rattle.std.specs.Prelude.{Option, Some, None, Result, Err}
use Prim.Native.Nat.{ℕ, suc, ◌+◌, ◌-◌, ◌≤◌, ◌<◌}
use native.Mathlib.Omega.{arith}
use native.Mathlib.Numerals.{add-one}
use mathlib.Core.Path.{◌≡◌, refl, sym, ap, ◌∙◌}
use mathlib.Core.List.{List}
use Rattle.meaning.specs.Ledger.{Settings}
use Rattle.meaning.specs.Forest.{bytes_of_sketch}
use Rattle.layout.specs.Pages.{next_at}
use Rattle.trie.specs.declared.Stop.{Stop}
use Rattle.trie.specs.declared.Stop.TheVariants.{Broken}
use Rattle.trie.specs.Model.{span_from}
use Rattle.blocks.specs.RowBytes.{rows_of}
use Rattle.leaf_bytes.specs.Bytes.{count_in}
use Rattle.trie_room.proofs.Few.{needed-few}
use Rattle.add_laws.specs.Room.{on_nodes, needed_from, block_needs, all_needed, room_of}

module _ (s : Settings) (N P S x : List ℕ) (a j : ℕ) (R : Option ℕ) (inv : needed_from (block_needs s N P S x) a j (s.blocks - j) ≡ R) where
  pub needs-done : s.blocks ≤ j → Some a ≡ R
  unfolding needed_from
  needs-done h = let e : s.blocks - j ≡ 0 = omega arith in rw (← inv, e) refl

  module _ (h : j < s.blocks) (r : Option ℕ) (e : r ≡ block_needs s N P S x j) where
    step : on_nodes (λ n. needed_from (block_needs s N P S x) (a + n) (j + 1) (s.blocks - (j + 1))) r ≡ R
    unfolding needed_from
    step = let q : s.blocks - j ≡ suc (s.blocks - (j + 1)) = omega arith in rw (← inv, e, q, add-one j) refl

    pub needs-more : (n : ℕ) → r ≡ Some n → needed_from (block_needs s N P S x) (a + n) (j + 1) (s.blocks - (j + 1)) ≡ R
    needs-more n m = rw m at step

    pub needs-broken : r ≡ None → None ≡ R
    needs-broken m = rw m at step

pub needs-start : (s : Settings) (N P S x : List ℕ) → needed_from (block_needs s N P S x) 0 0 (s.blocks - 0) ≡ all_needed s N P S x
unfolding all_needed
needs-start s N P S x = ap (needed_from (block_needs s N P S x) 0 0) (omega arith)

-- an answer is small
pub needs-few : (s : Settings) (N P S x : List ℕ) (j : ℕ) (r : Option ℕ) → r ≡ block_needs s N P S x j → (n : ℕ) → r ≡ Some n → n ≤ s.pages + 2
unfolding block_needs
needs-few s N P S x j r e n m =
    omega (
      arith,
      ap count_in (sym e ∙ m),
      needed-few P S s.thresholds s.pages (next_at s.pages j) (rows_of s j) (bytes_of_sketch s j x) N s.nodes j,
    )

-- and whether so many are free
module _ (s : Settings) (N P S x : List ℕ) (free : ℕ) (r : Option ℕ) (e : r ≡ all_needed s N P S x) where
  pub room-counted : (n : ℕ) → r ≡ Some n → (q : Result (Unit {0}) Stop) → q ≡ span_from N s.nodes free n → q ≡ room_of s N P S x free
  unfolding room_of
  room-counted n m q f = rw (← e, m) f

  pub room-broken : r ≡ None → Err Broken ≡ room_of s N P S x free
  unfolding room_of
  room-broken m = rw (← e, m) refl
