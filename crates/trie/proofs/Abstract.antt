-- The functions on the abstract trie go down by a page's bytes: at a node they pass over the children with lower bytes.
use Prim.Native.Nat.{ℕ, suc}
use mathlib.Core.Path.{◌≡◌}
use mathlib.Core.List.{[], ◌∷◌}
use Rattle.meaning.specs.Trie.{Tree, leaf, inner, Children, child}
use Rattle.children.proofs.Abstract.{Skips}

-- not an empty leaf
abbrev pub Kept : Tree → Type 0
Kept (leaf []) = ⊥
Kept (leaf (p ∷ ps)) = Unit {0}
Kept (inner cs) = Unit {0}

-- at level k a node's function works on the child of byte k
pub record Walks (byte : ℕ → ℕ) (F : ℕ → Tree → Tree) : Type 0 where
  pub below : ℕ → Children → Children
  pub inside : (k : ℕ) (cs : Children) → F k (inner cs) ≡ inner (below k cs)
  pub skips : (k : ℕ) → Skips (byte k) (below k)
  pub here : (k : ℕ) (t : Tree) (cs : Children) → Kept (F (suc k) t) → below k (child (byte k) t cs) ≡ child (byte k) (F (suc k) t) cs
