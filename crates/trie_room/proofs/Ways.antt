-- The models without a loop, by each way through the code.
use Rattle.std.specs.Prelude.{Option, Some, None}
use Prim.Native.Nat.{ℕ, ◌+◌, ◌<◌, ◌≤◌}
use mathlib.Core.Path.{◌≡◌, refl, ap, ◌∙◌}
use mathlib.Core.List.{List}
use native.Mathlib.Numerals.{add-one}
use borrow.Author.Tests.{le-ltb, lt-ltb, le-leb, lt-leb, eq-eqb, ne_eqb}
use lib.ListN.{length, get_or}
use Rattle.layout.specs.States.{kind_of, first_of, count_of}
use Rattle.blocks.specs.declared.Level.{Level}
use Rattle.blocks.specs.declared.Rows.{Rows}
use Rattle.blocks.specs.Packed.{level_at}
use Rattle.trie.specs.declared.path.Reached.{Reached}
use Rattle.trie.specs.declared.path.Reach.{Reach}
use Rattle.trie.specs.declared.path.Reach.TheVariants.{Leaf, Gap}
use Rattle.leaf_bytes.specs.Bytes.{distinct_bytes}
use Rattle.trie_room.specs.Needs.{gap_needs, leaf_needs, needed_at}

-- `gap_needs`
module _ (τ : List ℕ) (len k : ℕ) where
  pub gap-deep : len ≤ k → 1 ≡ gap_needs τ len k
  unfolding gap_needs
  gap-deep l = rw (le-ltb k len l) refl

  module _ (l : k < len) where
    pub gap-splits : get_or τ k 0 ≡ 0 → 2 ≡ gap_needs τ len k
    unfolding gap_needs
    gap-splits e = rw (lt-ltb k len l, eq-eqb (get_or τ k 0) 0 e) refl

    pub gap-stays : (get_or τ k 0 ≡ 0 → ⊥) → 1 ≡ gap_needs τ len k
    unfolding gap_needs
    gap-stays e = rw (lt-ltb k len l, ne_eqb (get_or τ k 0) 0 e) refl

-- `leaf_needs`
module _ (P S τ : List ℕ) (pcap base : ℕ) (r : Rows) (k count link byte : ℕ) where
  pub leaf-splits : get_or τ k 0 ≤ count → (v : Level) → v ≡ level_at r k → (x : Option ℕ) → x ≡ distinct_bytes P S pcap base v link byte →
      x ≡ leaf_needs P S τ pcap base r k count link byte
  unfolding leaf_needs
  leaf-splits l v w x u = rw (le-leb (get_or τ k 0) count l, ← w) u

  pub leaf-stays : count < get_or τ k 0 → Some 0 ≡ leaf_needs P S τ pcap base r k count link byte
  unfolding leaf_needs
  leaf-stays l = rw (lt-leb (get_or τ k 0) count l) refl

-- `needed_at`
module _ (P S τ : List ℕ) (pcap base : ℕ) (r : Rows) (Y N : List ℕ) (cap : ℕ) (g : Option Reach) where
  module _ (at : Reached) (q : g ≡ Some (Leaf at)) where
    pub at-end : length Y ≤ at.level → Some 0 ≡ needed_at P S τ pcap base r Y N cap g
    at-end l = rw (q, le-ltb at.level (length Y) l) refl

    pub at_leaf : at.level < length Y → (count : ℕ) → count ≡ count_of N cap at.node → (first : ℕ) → first ≡ first_of (kind_of N cap at.node) → (x : Option ℕ) →
        x ≡ leaf_needs P S τ pcap base r at.level count first (get_or Y at.level 0) → x ≡ needed_at P S τ pcap base r Y N cap g
    at_leaf l count c first f x e = rw (q, lt-ltb at.level (length Y) l, ← c, ← f) e

  pub at_gap : (at : Reached) → g ≡ Some (Gap at) → (x : ℕ) → x ≡ gap_needs τ (length Y) (at.level + 1) → Some x ≡ needed_at P S τ pcap base r Y N cap g
  at_gap at q x e = rw q (ap Some (e ∙ ap (gap_needs τ (length Y)) (add-one at.level)))

  pub at_none : g ≡ None → None ≡ needed_at P S τ pcap base r Y N cap g
  at_none q = rw q refl
