-- What `descend_to` and `trace_to` compute: N is the node table, of cap nodes, and Y the bytes.
use Rattle.std.specs.Prelude.{ℕ, zero, suc, ◌+◌, ◌<◌, ◌≤◌, ◌≡◌, cond, List, ltb, length, get_or, Option, Some, None}
use Rattle.layout.specs.Nodes.{node_words}
use Rattle.layout.specs.States.{kind_of}
use Rattle.layout.specs.declared.nodes.Kind.{Kind}
use Rattle.layout.specs.declared.nodes.Kind.TheVariants as kind
use Rattle.children.specs.declared.place.Place.{Place}
use Rattle.children.specs.declared.place.Place.TheVariants.{Found, Missing}
use Rattle.children.specs.Places.{find_place}
use Rattle.trie.specs.declared.path.Step.{Step}
use Rattle.trie.specs.declared.path.Step.TheVariants.{Child}
use Rattle.trie.specs.declared.path.Step.TheVariants as step
use Rattle.trie.specs.declared.path.Passed.{Passed}
use Rattle.trie.specs.declared.path.Reached.{Reached}
use Rattle.trie.specs.declared.path.Reach.{Reach}
use Rattle.trie.specs.declared.path.Reach.TheVariants.{Leaf, Gap}

-- where the byte of a place leads
abbrev pub step_by : Option Place → Option Step
step_by (Some (Found s c)) = Some (Child s c)
step_by (Some (Missing s)) = Some (step.Gap s)
step_by None = None

-- only an inner node has children
abbrev pub step_in : Option Step → Kind → Option Step
step_in below (kind.Leaf first) = Some step.Leaf
step_in below kind.Free = None
step_in below kind.Inner = below

-- one step from node n at level k
unfoldable pub step_to : List ℕ → ℕ → List ℕ → ℕ → ℕ → Option Step
step_to N cap Y n k = step_in (cond (ltb k (length Y)) (step_by (find_place N cap n (get_or Y k 0))) None) (kind_of N cap n)

abbrev pub reached : ℕ → ℕ → ℕ → Reached
reached n s k = record { node = n; slot = s; level = k }

-- what it comes to at node n, which slot s links to: on to the child, or the answer
abbrev pub follow : (ℕ → ℕ → Option Reach) → ℕ → ℕ → ℕ → Option Step → Option Reach
follow go n s k (Some (Child s' c)) = go c s'
follow go n s k (Some step.Leaf) = Some (Leaf (reached n s k))
follow go n s k (Some (step.Gap s')) = Some (Gap (reached n s' k))
follow go n s k None = None

-- from there over at most f levels
unfoldable pub descend : List ℕ → ℕ → List ℕ → ℕ → ℕ → ℕ → ℕ → Option Reach
descend N cap Y n s k zero = follow (λ c s'. None) n s k (step_to N cap Y n k)
descend N cap Y n s k (suc f) = follow (λ c s'. descend N cap Y c s' (k + 1) f) n s k (step_to N cap Y n k)

unfoldable pub descend_to : List ℕ → ℕ → ℕ → List ℕ → Option Reach
descend_to N cap root Y = descend N cap Y root 0 0 (length Y)

-- a node passed on the way, and the slot that links to it
abbrev pub passed : ℕ → ℕ → Passed
passed n s = record { node = n; slot = s }

-- on to the child that a step leads to
abbrev pub further : Passed → Option Step → Passed
further x (Some (Child s c)) = passed c s
further x (Some step.Leaf) = x
further x (Some (step.Gap s)) = x
further x None = x

-- the node at level k on the way down from a root; past the end of the way, its last node
unfoldable pub passed_at : List ℕ → ℕ → ℕ → List ℕ → ℕ → Passed
passed_at N cap root Y zero = passed root 0
passed_at N cap root Y (suc k) = let x : Passed = passed_at N cap root Y k in further x (step_to N cap Y x.node k)

-- the node at level k of a path that is noted in an array
abbrev pub noted : List Passed → ℕ → Passed
noted path k = get_or path k (passed 0 0)

-- the path has the nodes of the way above level k
abbrev pub Noted : (ℕ → Passed) → (ℕ → Passed) → ℕ → Type 0
Noted path way k = (j : ℕ) → j < k → path j ≡ way j

-- the level of what was reached
abbrev pub level_of : Option Reach → ℕ
level_of (Some (Leaf at)) = at.level
level_of (Some (Gap at)) = at.level
level_of None = 0

-- numbers inside the tables and the bytes
abbrev pub StepInside : ℕ → ℕ → ℕ → Option Step → Type 0
StepInside cap len k (Some (Child s c)) = (c < cap) × (s < node_words cap) × (k < len)
StepInside cap len k (Some step.Leaf) = Unit {0}
StepInside cap len k (Some (step.Gap s)) = (s < node_words cap) × (k < len)
StepInside cap len k None = Unit {0}

abbrev pub Inside : ℕ → ℕ → Option Reach → Type 0
Inside cap len (Some (Leaf at)) = (at.node < cap) × (at.slot < node_words cap) × (at.level ≤ len)
Inside cap len (Some (Gap at)) = (at.node < cap) × (at.slot < node_words cap) × (at.level < len)
Inside cap len None = Unit {0}
