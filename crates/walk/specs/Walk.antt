-- The walk over one block's trie, as a machine with fuel.
use Rattle.std.specs.Prelude.{ℕ, zero, suc, cond, List, [], ◌∷◌, eqb, length, Option, Some, None}
use Rattle.layout.specs.Nodes.{steps_for}
use Rattle.layout.specs.States.{kind_of}
use Rattle.layout.specs.declared.nodes.Kind.{Kind}
use Rattle.layout.specs.declared.nodes.Kind.TheVariants as kind
use Rattle.descent.specs.declared.Cursor.{Cursor}
use Rattle.walk_steps.specs.declared.frame.Frame.{Frame}
use Rattle.walk_steps.specs.declared.turn.Move.{Move}
use Rattle.walk_steps.specs.declared.turn.Move.TheVariants.{Chain, Past, Leaf, Down, Up}
use Rattle.walk_steps.specs.Given.{Given, exact_from, leaf_from, drawn_from}
use Rattle.walk_steps.specs.Turn.{entered, at_chain, at_link, found, reads}
use Rattle.walk.specs.Leaves.{Leaves, leaves, broken, before, spend}

-- the frame of a node, and those of the nodes above, the nearest first
pub record State : Type 0 where
  pub frame : Frame
  pub stack : List Frame

abbrev pub state : Frame → List Frame → State
state frame stack = record { frame = frame; stack = stack }

module _ (w : Given) where
  -- the leaf of a descent, which draws on the nodes, and then what is behind it
  abbrev pub leaf_then : (ℕ → Leaves) → ℕ → Cursor → Leaves
  leaf_then go nodes c = spend nodes (drawn_from w c) (λ k. before (leaf_from w c ∷ []) (go k))

  -- what a step leads to, with so many nodes left
  module _ (run : ℕ → State → Leaves) (nodes : ℕ) (frame : Frame) (stack : List Frame) where
    abbrev pub above : List Frame → Leaves
    above [] = leaves [] nodes
    above (f ∷ fs) = run nodes (state f fs)

    abbrev pub follow : Option Move → Leaves
    follow (Some (Chain at link)) = run nodes (state (at_chain frame at link) stack)
    follow (Some (Past link)) = run nodes (state (at_link frame link) stack)
    follow (Some (Leaf c link)) = leaf_then (λ k. run k (state (at_link frame link) stack)) nodes c
    follow (Some (Down x radius link)) = run nodes (state (entered w.nodes w.cap x radius) (at_link frame link ∷ stack))
    follow (Some Up) = above stack
    follow None = broken

  -- at most f steps, with so many nodes to read
  unfoldable pub run : ℕ → ℕ → State → Leaves
  run zero nodes s = broken
  run (suc f) nodes s =
      let m : Option Move = found w (length s.stack) s.frame in
      spend nodes (reads m) (λ k. follow (run f) k s.frame s.stack m)

  -- below the inner node x: for each node that is read a step to it, at most seven to the next chain, and one up. The nodes are what can run out
  unfoldable pub walk_below : ℕ → ℕ → ℕ → Leaves
  walk_below x radius nodes = run (steps_for w.cap) nodes (state (entered w.nodes w.cap x radius) [])

  -- by what the root is
  abbrev pub walk_as : ℕ → ℕ → ℕ → Kind → Leaves
  walk_as root radius nodes kind.Free = broken
  walk_as root radius nodes (kind.Leaf first) = leaves (first ∷ []) nodes
  walk_as root radius nodes kind.Inner = walk_below root radius nodes

  -- from a root; at radius 0 the leaf that the query's bytes lead to
  unfoldable pub walk_from : ℕ → ℕ → ℕ → Leaves
  walk_from root radius nodes =
      cond (eqb radius 0) (leaf_then (leaves []) nodes (exact_from w root 0))
      (walk_as root radius nodes (kind_of w.nodes w.cap root))
