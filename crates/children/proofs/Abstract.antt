-- The children of a node in the abstract trie, by their bytes.
use Prim.Native.Nat.{ℕ, ◌<◌}
use mathlib.Core.Path.{◌≡◌}
use Rattle.meaning.specs.Trie.{Tree, leaf, inner, Children, none, child}

-- a function on children that passes over bytes below b
abbrev pub Skips : ℕ → (Children → Children) → Type 0
Skips b F = (c : ℕ) (t : Tree) (cs : Children) → c < b → F (child c t cs) ≡ child c t (F cs)

-- a byte before the first child's
abbrev pub Above : ℕ → Children → Type 0
Above b none = Unit {0}
Above b (child c t cs) = b < c

-- every child is a leaf
abbrev pub Leaves : Children → Type 0
Leaves none = Unit {0}
Leaves (child c (leaf ps) cs) = Leaves cs
Leaves (child c (inner ds) cs) = ⊥

pub leaves-next : (c : ℕ) (t : Tree) (cs : Children) → Leaves (child c t cs) → Leaves cs
leaves-next c (leaf ps) cs z = z
leaves-next c (inner ds) cs z = absurd z
