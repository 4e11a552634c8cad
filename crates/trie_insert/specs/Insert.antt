-- A page put into the leaf that its bytes Y lead to.
use Rattle.std.specs.Prelude.{ℕ, suc, ◌+◌, List, get_or, Result, Ok, Err, Option, Some, None}
use Rattle.blocks.specs.declared.Rows.{Rows}
use Rattle.trie.specs.declared.Stop.{Stop}
use Rattle.trie.specs.declared.Stop.TheVariants as stop
use Rattle.trie.specs.Model.{Made, made, fresh_leaf}
use Rattle.trie.specs.declared.path.Reach.{Reach}
use Rattle.trie.specs.declared.path.Reach.TheVariants.{Leaf, Gap}
use Rattle.trie.specs.Descend.{descend_to}
use Rattle.trie_insert.specs.declared.insert.Target.{Target}
use Rattle.trie_insert.specs.Pages.{After, after}
use Rattle.trie_insert.specs.Split.{grow_leaf}

-- the node table and the answer
pub data Aimed : Type 0 where
  aimed : List ℕ → Result Target Stop → Aimed

-- leaf n at level k, with the free link then
abbrev pub ready : ℕ → ℕ → ℕ → Target
ready n k free = record { leaf = n; level = k; free = free }

-- one above the node of an answer
abbrev pub target_in : Result Target Stop → ℕ
target_in (Ok t) = suc t.leaf
target_in (Err e) = 0

abbrev pub aim_made : ℕ → Made → Aimed
aim_made k (made N (Ok g)) = aimed N (Ok (ready g.node k g.free))
aim_made k (made N (Err e)) = aimed N (Err e)

abbrev pub aim_at : List ℕ → ℕ → List ℕ → ℕ → Option Reach → Aimed
aim_at N cap Y free (Some (Leaf at)) = aimed N (Ok (ready at.node at.level free))
aim_at N cap Y free (Some (Gap at)) = aim_made (at.level + 1) (fresh_leaf N cap at.slot (get_or Y at.level 0) free)
aim_at N cap Y free None = aimed N (Err stop.Broken)

-- the leaf that the bytes Y lead to from a root, which is made where it is missing
unfoldable pub leaf_for : List ℕ → ℕ → List ℕ → ℕ → ℕ → Aimed
leaf_for N cap Y root free = aim_at N cap Y free (descend_to N cap root Y)

-- page p put into the trie with a root, along its bytes Y
module _ (S τ : List ℕ) (r : Rows) (cap pcap base : ℕ) where
  abbrev pub insert_at : List ℕ → ℕ → Aimed → After
  insert_at P p (aimed N (Ok t)) = grow_leaf S τ r cap pcap base N P t.level t.leaf p t.free
  insert_at P p (aimed N (Err e)) = after N P (Err e)

  unfoldable pub insert_page : List ℕ → List ℕ → List ℕ → ℕ → ℕ → ℕ → After
  insert_page N P Y root p free = insert_at P p (leaf_for N cap Y root free)
