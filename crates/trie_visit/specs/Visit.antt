-- Where a visit of a walk over a block's trie leads.
use Rattle.std.specs.Prelude.{ℕ, ◌+◌, cond, List, ltb, eqb, set, Option, Some, None}
use Rattle.layout.specs.States.{count_of}
use Rattle.children.specs.declared.order.Frame.{Frame}
use Rattle.children.specs.declared.order.Step.{Step}
use Rattle.children.specs.declared.order.Step.TheVariants as step
use Rattle.node_check.specs.declared.leaf.Kind.{Kind}
use Rattle.node_check.specs.declared.leaf.Kind.TheVariants as kind
use Rattle.node_check.specs.Given.{Given}
use Rattle.trie_visit.specs.declared.Place.{Place}
use Rattle.trie_visit.specs.declared.Move.{Move}
use Rattle.trie_visit.specs.declared.Move.TheVariants as move
use Rattle.node_check.specs.Mark.{Noted, mark_once}
use Rattle.node_check.specs.Leaf.{kind_of, test_leaf}
use Rattle.node_check.specs.Frame.{step_in}

-- where a walk stands
abbrev pub placed : ℕ → Frame → ℕ → ℕ → Place
placed depth frame left pages = record { depth = depth; frame = frame; left = left; pages = pages }

-- the map after a child is tested, and where that leads
pub record Seen : Type 0 where
  pub map : List ℕ
  pub move : Option Move

abbrev pub seen : List ℕ → Option Move → Seen
seen map move = record { map = map; move = move }

abbrev pub past_leaf : ℕ → ℕ → Option ℕ → Option Move
past_leaf byte link (Some n) = Some (move.Past byte link n)
past_leaf byte link None = None

-- the map and the path after a visit
pub record Visited : Type 0 where
  pub map : List ℕ
  pub path : List ℕ
  pub move : Option Move

abbrev pub visited : List ℕ → List ℕ → Option Move → Visited
visited map path move = record { map = map; path = path; move = move }

module _ (w : Given) where
  -- leaf x at the end of a path of d bytes: its pages, and their number
  abbrev pub leaf_left : List ℕ → ℕ → ℕ → ℕ → ℕ → Option ℕ
  leaf_left path d x first left =
      test_leaf w.pages w.sketches w.block.pages w.block.base w.rows path d first (count_of w.nodes w.block.nodes x) left

  -- a child x with a byte, of a node at level k; `link` is after it
  abbrev pub child_move : List ℕ → ℕ → ℕ → ℕ → ℕ → ℕ → Option Kind → Option Move
  child_move path k x byte link left None = None
  child_move path k x byte link left (Some kind.Inner) = cond (ltb (k + 1) w.rows.bytes) (Some (move.Down x byte link)) None
  child_move path k x byte link left (Some (kind.Leaf first)) =
      cond (eqb first 0) None (past_leaf byte link (leaf_left path (k + 1) x first left))

  abbrev pub on_mark : Noted → Option Move → Seen
  on_mark n m = seen n.map (cond n.fresh m None)

  unfoldable pub visit_child : List ℕ → List ℕ → ℕ → ℕ → ℕ → ℕ → ℕ → Seen
  visit_child map path k x byte link left =
      on_mark (mark_once w.window map x) (child_move path k x byte link left (kind_of w.nodes w.block.nodes x))

  abbrev pub on_child : List ℕ → Seen → Visited
  on_child path s = visited s.map path s.move

  -- a step in a node at level k
  abbrev pub visit_step : List ℕ → List ℕ → ℕ → ℕ → ℕ → Option Step → Visited
  visit_step map path k left pages_left (Some (step.Chain link)) = visited map path (Some (move.Chain link))
  visit_step map path k left pages_left (Some (step.Child x byte link)) =
      cond (eqb left 0) (visited map path None)
      (on_child (set path k byte) (visit_child map (set path k byte) k x byte link pages_left))
  visit_step map path k left pages_left (Some step.Up) = visited map path (Some move.Up)
  visit_step map path k left pages_left None = visited map path None

  unfoldable pub visit : List ℕ → List ℕ → ℕ → Frame → ℕ → ℕ → Visited
  visit map path k f left pages_left =
      visit_step map path k left pages_left (step_in w.nodes w.block.nodes w.rows.bits w.rows.length k f)
