-- On any tables, an answer is small.
use Rattle.std.specs.Prelude.{Some, Option, None}
use Prim.Native.Nat.{ℕ, suc, ◌+◌, ◌≤◌}
use mathlib.Core.Bool.{Bool, true, false, cond, ◌&&◌}
use mathlib.Core.List.{List}
use native.Mathlib.Omega.{arith}
use lib.Dec.{ltb, leb, eqb}
use lib.ListN.{length, get_or}
use Rattle.layout.specs.States.{kind_of, first_of, count_of}
use Rattle.blocks.specs.declared.Rows.{Rows}
use Rattle.blocks.specs.Packed.{level_at}
use Rattle.trie.specs.declared.path.Reach.{Reach}
use Rattle.trie.specs.declared.path.Reach.TheVariants.{Leaf, Gap}
use Rattle.trie.specs.Descend.{descend_to}
use Rattle.leaf_bytes.specs.Bytes.{count_in, distinct_bytes}
use Rattle.leaf_bytes.proofs.Few.{distinct-few}
use Rattle.trie_room.specs.Needs.{gap_needs, leaf_needs, needed_at, nodes_needed}

module _ (P S τ : List ℕ) (pcap base : ℕ) (r : Rows) where
  leaf-few : (k count link byte : ℕ) → count_in (leaf_needs P S τ pcap base r k count link byte) ≤ pcap + 1
  unfolding leaf_needs
  leaf-few k count link byte = go (leb (get_or τ k 0) count)
    where
      go : (q : Bool) → count_in (cond q (distinct_bytes P S pcap base (level_at r k) link byte) (Some 0)) ≤ pcap + 1
      go true = distinct-few P S pcap base (level_at r k) link byte
      go false = omega arith

  gap-few : (len k : ℕ) → gap_needs τ len k ≤ 2
  unfolding gap_needs
  gap-few len k = go (ltb k len && eqb (get_or τ k 0) 0)
    where
      go : (q : Bool) → cond q 2 1 ≤ 2
      go true = omega arith
      go false = omega arith

  pub at-few : (Y N : List ℕ) (cap : ℕ) (g : Option Reach) → count_in (needed_at P S τ pcap base r Y N cap g) ≤ pcap + 2
  at-few Y N cap (Some (Leaf at)) = go (ltb at.level (length Y))
    where
      go : (q : Bool) → count_in (cond q (leaf_needs P S τ pcap base r at.level (count_of N cap at.node) (first_of (kind_of N cap at.node)) (get_or Y at.level 0)) (Some 0)) ≤ pcap + 2
      go true = omega (arith, leaf-few at.level (count_of N cap at.node) (first_of (kind_of N cap at.node)) (get_or Y at.level 0))
      go false = omega arith
  at-few Y N cap (Some (Gap at)) = omega (arith, gap-few (length Y) (suc at.level))
  at-few Y N cap None = omega arith

  pub needed-few : (Y N : List ℕ) (cap root : ℕ) → count_in (nodes_needed P S τ pcap base r Y N cap root) ≤ pcap + 2
  unfolding nodes_needed
  needed-few Y N cap root = at-few Y N cap (descend_to N cap root Y)
