-- What the code computes, as definitions on the tables: N is the node table, of cap nodes.
use Rattle.std.specs.Prelude.{ℕ, zero, suc, ◌-◌, List, cond, ltb, eqb, set, Result, Ok, Err, Option, Some, None}
use Rattle.layout.specs.Nodes.{state_at, empty_state}
use Rattle.layout.specs.States.{next_free, with_free}
use Rattle.children.specs.Places.{find_place}
use Rattle.children.specs.Links.{put_in, take_out}
use Rattle.trie.specs.declared.leaf.Grown.{Grown}
use Rattle.trie.specs.declared.Stop.{Stop}
use Rattle.trie.specs.declared.Stop.TheVariants.{Full}
use Rattle.trie.specs.declared.Stop.TheVariants as stop
use Rattle.children.specs.declared.place.Place.{Place}
use Rattle.children.specs.declared.place.Place.TheVariants.{Found, Missing}

-- node f as an empty leaf with byte b, linked into slot s before what the slot linked to
unfoldable pub link_leaf : List ℕ → ℕ → ℕ → ℕ → ℕ → List ℕ
link_leaf N cap s f b = put_in (set N (state_at cap f) empty_state) s f b

-- the node table and the answer
pub data Made : Type 0 where
  made : List ℕ → Result Grown Stop → Made

-- node n, with the free link then
abbrev pub grown : ℕ → ℕ → Grown
grown n free = record { node = n; free = free }

-- one above the node of an answer
abbrev pub node_in : Result Grown Stop → ℕ
node_in (Ok g) = suc g.node
node_in (Err e) = 0

unfoldable pub fresh_leaf : List ℕ → ℕ → ℕ → ℕ → ℕ → Made
fresh_leaf N cap s b free =
    cond (eqb free 0) (made N (Err Full))
    (cond (ltb cap free) (made N (Err stop.Broken))
    (made (link_leaf N cap s (free - 1) b) (Ok (grown (free - 1) (next_free N (free - 1))))))

abbrev pub made_at : List ℕ → ℕ → ℕ → ℕ → Option Place → Made
made_at N cap b free (Some (Found s c)) = made N (Ok (grown c free))
made_at N cap b free (Some (Missing s)) = fresh_leaf N cap s b free
made_at N cap b free None = made N (Err stop.Broken)

-- the child of byte b of node n, which is made where it is missing
unfoldable pub child_leaf : List ℕ → ℕ → ℕ → ℕ → ℕ → Made
child_leaf N cap n b free = made_at N cap b free (find_place N cap n b)

-- child c out of the chain at slot s, and first among the free nodes
unfoldable pub free_child : List ℕ → ℕ → ℕ → ℕ → ℕ → List ℕ
free_child N cap s c free = with_free (take_out N s c) cap c free

-- whether the chain of free nodes from link l on has f members
unfoldable pub span_from : List ℕ → ℕ → ℕ → ℕ → Result (Unit {0}) Stop
span_from N cap l zero = Ok tt
span_from N cap l (suc f) = cond (eqb l 0) (Err Full) (cond (ltb cap l) (Err stop.Broken) (span_from N cap (next_free N (l - 1)) f))
