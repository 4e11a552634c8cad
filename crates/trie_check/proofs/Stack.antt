-- The frames of a walk: all are of nodes of the table.
use Prim.Native.Nat.{ℕ, ◌+◌, ◌-◌, ◌<◌, ◌≤◌}
use native.Mathlib.Omega.{arith}
use mathlib.Core.Path.{◌≡◌, sym, subst}
use mathlib.Core.List.{List}
use lib.ListN.{length, get_or, set}
use Rattle.meaning.proofs.Stacks.{Held, held_start, held-stay, held_down, held_up}
use Rattle.children.specs.declared.order.Frame.{Frame}
use Rattle.children.specs.Order.{entered, past_child, next_chain}
use Rattle.trie_visit.specs.declared.Place.{Place}
use Rattle.trie_visit.specs.Visit.{placed}

-- what is read past the end of an array of frames
abbrev pub no_frame : Frame
no_frame = record { node = 0; group = 0; link = 0; least = 0 }

-- a frame is of a node of the table, at one of its chains
abbrev pub Inside : ℕ → Frame → Type 0
Inside cap frame = (frame.node < cap) × (frame.group < 8)

-- so are that of a node at a level of `len`, and those of the nodes above it, which an array has
abbrev pub Safe : ℕ → ℕ → Frame → List Frame → ℕ → Type 0
Safe cap = Held no_frame (Inside cap)

module _ (nodes : List ℕ) (cap len : ℕ) where
  entered-inside : (x : ℕ) → x < cap → Inside cap (entered nodes cap x)
  unfolding entered
  entered-inside x l = (l, omega arith)

  pub safe-start : (root : ℕ) (frame : Frame) (array : List Frame) → frame ≡ entered nodes cap root → root < cap → length array ≡ 64 → 0 < len
      → len ≤ 64 → Safe cap len frame array 0
  safe-start root frame array e l room some short =
      held_start no_frame (Inside cap) len frame array (subst (Inside cap) (sym e) (entered-inside root l)) room some short

  module _ (at : Place) (array : List Frame) (h : Safe cap len at.frame array at.depth) where
    stay : (frame : Frame) → Inside cap frame → Safe cap len frame array at.depth
    stay = held-stay no_frame (Inside cap) len at.frame array at.depth h

    pub safe-chain : (link : ℕ) (frame : Frame) → frame ≡ next_chain at.frame link → at.frame.group < 7
        → Safe cap len frame array at.depth
    safe-chain link frame e l = stay frame (subst (Inside cap) (sym e) (h.inside.0, omega (arith, l)))

    pub safe-past : (byte link left pages : ℕ) (next : Place) → next ≡ placed at.depth (past_child at.frame byte link) left pages
        → Safe cap len next.frame array next.depth
    safe-past byte link left pages next e =
        subst (λ p. Safe cap len p.frame array p.depth) (sym e) (stay (past_child at.frame byte link) h.inside)

    pub safe-down : (x byte link left pages : ℕ) (rest : Frame) (next : Place) → rest ≡ past_child at.frame byte link
        → next ≡ placed (at.depth + 1) (entered nodes cap x) left pages → x < cap → at.depth + 1 < len
        → Safe cap len next.frame (set array at.depth rest) next.depth
    safe-down x byte link left pages rest next r e l m =
        subst (λ p. Safe cap len p.frame (set array at.depth rest) p.depth) (sym e)
        (held_down no_frame (Inside cap) len at.frame array at.depth h rest (entered nodes cap x)
        (subst (Inside cap) (sym r) h.inside)
        (entered-inside x l)
        m)

    pub safe-up : 0 < at.depth → Safe cap len (get_or array (at.depth - 1) no_frame) array (at.depth - 1)
    safe-up l = held_up no_frame (Inside cap) len at.frame array at.depth h l
