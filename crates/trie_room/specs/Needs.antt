-- How many nodes an add needs in one block. N is the node table, P the page table, S the sketch table.
use Rattle.std.specs.Prelude.{ℕ, suc, cond, ◌&&◌, List, ltb, leb, eqb, length, get_or, Option, Some, None}
use Rattle.layout.specs.States.{kind_of, first_of, count_of}
use Rattle.blocks.specs.declared.Rows.{Rows}
use Rattle.blocks.specs.Packed.{level_at}
use Rattle.trie.specs.declared.path.Reach.{Reach}
use Rattle.trie.specs.declared.path.Reach.TheVariants.{Leaf, Gap}
use Rattle.trie.specs.Descend.{descend_to}
use Rattle.leaf_bytes.specs.Bytes.{distinct_bytes}

-- a new leaf at level k of len levels with a byte: one node, and one more where it splits at once
unfoldable pub gap_needs : List ℕ → ℕ → ℕ → ℕ
gap_needs τ len k = cond (ltb k len && eqb (get_or τ k 0) 0) 2 1

-- τ are the thresholds by level
module _ (P S τ : List ℕ) (pcap base : ℕ) (r : Rows) where
  -- a leaf at level k with so many pages, the first at a link, that takes a page with a byte there: a node for each byte where it splits
  unfoldable pub leaf_needs : ℕ → ℕ → ℕ → ℕ → Option ℕ
  leaf_needs k count first byte = cond (leb (get_or τ k 0) count) (distinct_bytes P S pcap base (level_at r k) first byte) (Some 0)

  -- where the bytes Y of the page lead
  abbrev pub needed_at : List ℕ → List ℕ → ℕ → Option Reach → Option ℕ
  needed_at Y N cap (Some (Leaf at)) =
      cond (ltb at.level (length Y)) (leaf_needs at.level (count_of N cap at.node) (first_of (kind_of N cap at.node)) (get_or Y at.level 0)) (Some 0)
  needed_at Y N cap (Some (Gap at)) = Some (gap_needs τ (length Y) (suc at.level))
  needed_at Y N cap None = None

  unfoldable pub nodes_needed : List ℕ → List ℕ → ℕ → ℕ → Option ℕ
  nodes_needed Y N cap root = needed_at Y N cap (descend_to N cap root Y)
