-- The test of one block's trie, as a machine with fuel.
use Rattle.std.specs.Prelude.{ℕ, zero, suc, ◌-◌, Bool, cond, List, [], ◌∷◌, eqb, length, replicate, Option, Some, None}
use Rattle.layout.specs.Nodes.{steps_for}
use Rattle.children.specs.declared.order.Frame.{Frame}
use Rattle.node_check.specs.declared.leaf.Kind.{Kind}
use Rattle.node_check.specs.declared.leaf.Kind.TheVariants as kind
use Rattle.trie_visit.specs.declared.Move.{Move}
use Rattle.trie_visit.specs.declared.Move.TheVariants as move
use Rattle.node_check.specs.Mark.{mark_once}
use Rattle.node_check.specs.Leaf.{kind_of}
use Rattle.children.specs.Order.{entered, past_child, next_chain}
use Rattle.node_check.specs.Given.{Given}
use Rattle.trie_visit.specs.Visit.{Visited, visit, leaf_left}

-- the map, the path, what is left of both budgets, the frame of a node, and those of the nodes above, the nearest first
pub record State : Type 0 where
  pub map : List ℕ
  pub path : List ℕ
  pub left : ℕ
  pub pages : ℕ
  pub frame : Frame
  pub stack : List Frame

abbrev pub state : List ℕ → List ℕ → ℕ → ℕ → Frame → List Frame → State
state map path left pages frame stack = record { map = map; path = path; left = left; pages = pages; frame = frame; stack = stack }

-- the map after a test, and what is left of the node budget
pub record Tested : Type 0 where
  pub map : List ℕ
  pub answer : Option ℕ

abbrev pub tested : List ℕ → Option ℕ → Tested
tested map answer = record { map = map; answer = answer }

unfoldable pub left_if : ℕ → Bool → Option ℕ
left_if left holds = cond holds (Some left) None

-- a root that is a leaf
abbrev pub left_leaf : ℕ → Option ℕ → Option ℕ
left_leaf left (Some n) = left_if left (eqb n 0)
left_leaf left None = None

module _ (w : Given) where
  -- what a move leads to
  abbrev pub follow : (State → Tested) → State → Visited → Option Move → Tested
  follow run s v (Some (move.Chain link)) = run (state v.map v.path s.left s.pages (next_chain s.frame link) s.stack)
  follow run s v (Some (move.Past byte link n)) = run (state v.map v.path (s.left - 1) n (past_child s.frame byte link) s.stack)
  follow run s v (Some (move.Down x byte link)) =
      run
      (state v.map v.path (s.left - 1) s.pages (entered w.nodes w.block.nodes x)
      (past_child s.frame byte link ∷ s.stack))
  follow run s v (Some move.Up) = up s.stack
    where
      up : List Frame → Tested
      up [] = tested v.map (left_if s.left (eqb s.pages 0))
      up (f ∷ fs) = run (state v.map v.path s.left s.pages f fs)
  follow run s v None = tested v.map None

  -- at most f steps
  unfoldable pub run : ℕ → State → Tested
  run zero s = tested s.map None
  run (suc f) s =
      let v : Visited = visit w s.map s.path (length s.stack) s.frame s.left s.pages in
      follow (run f) s v v.move

  -- below an inner root: for each node a step to it, at most seven to the next chain, and one up
  unfoldable pub test_below : ℕ → List ℕ → ℕ → ℕ → Tested
  test_below root map left pages =
      run (steps_for w.block.nodes) (state map (replicate 64 0) left pages (entered w.nodes w.block.nodes root) [])

  abbrev pub test_kind : ℕ → List ℕ → ℕ → ℕ → Option Kind → Tested
  test_kind root map left pages None = tested map None
  test_kind root map left pages (Some kind.Inner) = test_below root map left pages
  test_kind root map left pages (Some (kind.Leaf first)) = tested map (left_leaf left (leaf_left w (replicate 64 0) 0 root first pages))

  -- the trie with a root, of at most `left` nodes and of `pages` pages
  unfoldable pub test_trie : ℕ → List ℕ → ℕ → ℕ → Tested
  test_trie root map left pages =
      cond (eqb left 0) (tested map None)
      (cond (mark_once w.window map root).fresh
      (test_kind root (mark_once w.window map root).map (left - 1) pages (kind_of w.nodes w.block.nodes root))
      (tested (mark_once w.window map root).map None))
