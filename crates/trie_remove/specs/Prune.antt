-- What `prune_up` computes: the way up from an emptied leaf (document 02, F-2). N is the node table, of cap nodes.
use Rattle.std.specs.Prelude.{ℕ, zero, suc, ◌+◌, ◌<◌, cond, List, set}
use Rattle.layout.specs.Nodes.{state_at, empty_state, node_words}
use Rattle.children.specs.Order.{bare}
use Rattle.trie.specs.Model.{free_child}
use Rattle.trie.specs.declared.path.Passed.{Passed}

-- the node table and the free link
pub data Freed : Type 0 where
  freed : List ℕ → ℕ → Freed

-- from an empty leaf n at level k, which slot s links to: it is freed where it is not the root, and then the node above is an empty leaf
-- in its turn, where it has no child left; `way` has the nodes above, by level
unfoldable pub prune_up : List ℕ → ℕ → (ℕ → Passed) → ℕ → ℕ → ℕ → ℕ → Freed
prune_up N cap way zero n s free = freed N free
prune_up N cap way (suc k) n s free =
    let M : List ℕ = free_child N cap s n free in
    let x : Passed = way k in
    cond (bare M cap x.node) (prune_up (set M (state_at cap x.node) empty_state) cap way k x.node x.slot (n + 1)) (freed M (n + 1))

-- the nodes above level k and their slots are in the table
abbrev pub InTable : ℕ → (ℕ → Passed) → ℕ → Type 0
InTable cap way k = (j : ℕ) → j < k → ((way j).node < cap) × ((way j).slot < node_words cap)
