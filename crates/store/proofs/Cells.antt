-- The cells of one trie out of those of the blocks from j on, and back; z are those of the free nodes, g others.
use native.Mathlib.Omega.{arith}
use Rattle.children.specs.Heap.{Cells, nil, ◌⊕◌}
use Rattle.children.proofs.Frame.{Less}

-- one trie out, and the others
pub one_out : (x y z g : Cells) → Less ((x ⊕ y) ⊕ z ⊕ g) (x ⊕ z ⊕ y ⊕ g)
one_out x y z g = record { holds = λ N P h. search; nodes = λ a. omega arith; pages = λ a. omega arith }

-- put beside
pub one-past : (x y z g : Cells) → Less ((x ⊕ y) ⊕ z ⊕ g) (y ⊕ z ⊕ x ⊕ g)
one-past x y z g = record { holds = λ N P h. search; nodes = λ a. omega arith; pages = λ a. omega arith }

-- and back
pub one-back : (x y z g : Cells) → Less (y ⊕ z ⊕ x ⊕ g) ((x ⊕ y) ⊕ z ⊕ g)
one-back x y z g = record { holds = λ N P h. search; nodes = λ a. omega arith; pages = λ a. omega arith }

-- nothing besides
pub beside_none : (x z : Cells) → Less (x ⊕ z) (x ⊕ z ⊕ nil)
beside_none x z = record { holds = λ N P h. (h.0, (h.1, tt)); nodes = λ a. omega arith; pages = λ a. omega arith }
