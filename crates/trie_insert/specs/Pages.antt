-- A page put into a leaf: N is the node table, of cap nodes, P the page table; the links of the block's pages stand from base on.
use Rattle.std.specs.Prelude.{ℕ, ◌+◌, List, set, Result, Ok, Err}
use Rattle.layout.specs.States.{kind_of, longer}
use Rattle.layout.specs.declared.nodes.Kind.{Kind}
use Rattle.layout.specs.declared.nodes.Kind.TheVariants as kind
use Rattle.trie.specs.declared.leaf.Grown.{Grown}
use Rattle.trie.specs.declared.Stop.{Stop}
use Rattle.trie.specs.declared.Stop.TheVariants as stop
use Rattle.trie.specs.Model.{Made, made, grown, child_leaf}

-- both tables, and whether the page was put in
pub data Pushed : Type 0 where
  pushed : List ℕ → List ℕ → Result (Unit {0}) Stop → Pushed

-- page p put first into leaf n, before a link
abbrev pub push_nodes : List ℕ → ℕ → ℕ → ℕ → List ℕ
push_nodes N cap n p = longer N cap n (p + 1)

abbrev pub push_pages : List ℕ → ℕ → ℕ → ℕ → List ℕ
push_pages P base p next = set P (base + p) next

abbrev pub push_at : List ℕ → List ℕ → ℕ → ℕ → ℕ → ℕ → Kind → Pushed
push_at N P cap base n p (kind.Leaf first) = pushed (push_nodes N cap n p) (push_pages P base p first) (Ok tt)
push_at N P cap base n p kind.Inner = pushed N P (Err stop.Broken)
push_at N P cap base n p kind.Free = pushed N P (Err stop.Broken)

unfoldable pub push_page : List ℕ → List ℕ → ℕ → ℕ → ℕ → ℕ → Pushed
push_page N P cap base n p = push_at N P cap base n p (kind_of N cap n)

-- both tables and the answer
pub data After : Type 0 where
  after : List ℕ → List ℕ → Result Grown Stop → After

abbrev pub put_done : ℕ → ℕ → Pushed → After
put_done c next (pushed N P (Ok u)) = after N P (Ok (grown c next))
put_done c next (pushed N P (Err e)) = after N P (Err e)

abbrev pub put_into : List ℕ → ℕ → ℕ → ℕ → Made → After
put_into P cap base p (made N (Ok g)) = put_done g.node g.free (push_page N P cap base g.node p)
put_into P cap base p (made N (Err e)) = after N P (Err e)

-- page p put into the child leaf of byte b of node n
unfoldable pub put_leaf_m : List ℕ → List ℕ → ℕ → ℕ → ℕ → ℕ → ℕ → ℕ → After
put_leaf_m N P cap base n b p free = put_into P cap base p (child_leaf N cap n b free)
