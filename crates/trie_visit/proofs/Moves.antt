-- Where visits lead: they stay in the table.
use Rattle.std.specs.Prelude.{Option, Some, None}
use Prim.Native.Nat.{ℕ, ◌+◌, ◌<◌}
use native.Mathlib.Omega.{arith}
use mathlib.Core.Path.{◌≡◌, refl, sym, ap, ◌∙◌, subst}
use mathlib.Core.Bool.{Bool, true, false, cond}
use mathlib.Core.List.{List}
use lib.Dec.{ltb, eqb}
use lib.ListN.{set}
use borrow.Author.Tests.{ltb-true, eqb-false}
use Rattle.children.specs.declared.order.Frame.{Frame}
use Rattle.children.specs.declared.order.Step.{Step}
use Rattle.children.specs.declared.order.Step.TheVariants as step
use Rattle.node_check.specs.declared.leaf.Kind.{Kind}
use Rattle.node_check.specs.declared.leaf.Kind.TheVariants as kind
use Rattle.trie_visit.specs.declared.Move.{Move}
use Rattle.trie_visit.specs.declared.Move.TheVariants as move
use Rattle.node_check.specs.Mark.{mark_once}
use Rattle.node_check.specs.Leaf.{kind_of}
use Rattle.node_check.specs.Frame.{step_in}
use Rattle.node_check.specs.Given.{Given}
use Rattle.trie_visit.specs.Visit.{past_leaf, leaf_left, child_move, visit_child, visited, visit_step, visit}
use Rattle.node_check.proofs.Steps.{chain-within, child-within}

-- a visit leads to a chain of the eight, or past a byte while nodes are left, or to a node of the table above the last level
abbrev MoveWithin : Given → ℕ → ℕ → Frame → Option Move → Type 0
MoveWithin w left k frame (Some (move.Chain link)) = frame.group < 7
MoveWithin w left k frame (Some (move.Past byte link n)) = (0 < left) × (byte < 256)
MoveWithin w left k frame (Some (move.Down x byte link)) = (0 < left) × (byte < 256) × (x < w.block.nodes) × (k + 1 < w.rows.bytes)
MoveWithin w left k frame (Some move.Up) = Unit {0}
MoveWithin w left k frame None = Unit {0}

module _ (w : Given) (map path : List ℕ) (k : ℕ) (frame : Frame) (left pages : ℕ) (in_group : frame.group < 8) where
  child-moves : (x byte link : ℕ) → 0 < left → (x < w.block.nodes) × (byte < 256) → (s : Option Kind)
      → MoveWithin w left k frame (child_move w (set path k byte) k x byte link pages s)
  child-moves x byte link m h None = tt
  child-moves x byte link m h (Some kind.Inner) = go (ltb (k + 1) w.rows.bytes) refl
    where
      go : (q : Bool) → ltb (k + 1) w.rows.bytes ≡ q → MoveWithin w left k frame (cond q (Some (move.Down x byte link)) None)
      go true f = (m, h.1, h.0, ltb-true (k + 1) w.rows.bytes f)
      go false f = tt
  child-moves x byte link m h (Some (kind.Leaf first)) = go (eqb first 0) (leaf_left w (set path k byte) (k + 1) x first pages)
    where
      go : (q : Bool) (a : Option ℕ) → MoveWithin w left k frame (cond q None (past_leaf byte link a))
      go true a = tt
      go false (Some n) = (m, h.1)
      go false None = tt

  seen_moves : (x byte link : ℕ) → 0 < left → (x < w.block.nodes) × (byte < 256)
      → MoveWithin w left k frame (visit_child w map (set path k byte) k x byte link pages).move
  unfolding visit_child
  seen_moves x byte link m h =
      go (mark_once w.window map x).fresh (child_move w (set path k byte) k x byte link pages (kind_of w.nodes w.block.nodes x))
      (child-moves x byte link m h (kind_of w.nodes w.block.nodes x))
    where
      go : (q : Bool) (s : Option Move) → MoveWithin w left k frame s → MoveWithin w left k frame (cond q s None)
      go true s i = i
      go false s i = tt

  step-moves : (s : Option Step) → step_in w.nodes w.block.nodes w.rows.bits w.rows.length k frame ≡ s
      → MoveWithin w left k frame (visit_step w map path k left pages s).move
  step-moves (Some (step.Chain link)) e = chain-within w.nodes w.block.nodes w.rows.bits w.rows.length k frame in_group link e
  step-moves (Some (step.Child x byte link)) e = go (eqb left 0) refl
    where
      go : (q : Bool) → eqb left 0 ≡ q
          → MoveWithin w left k frame
          (cond q (visited map path None)
          (visited (visit_child w map (set path k byte) k x byte link pages).map (set path k byte)
          (visit_child w map (set path k byte) k x byte link pages).move)
          ).move
      go true f = tt
      go false f =
          seen_moves x byte link (omega (arith, eqb-false left 0 f))
          (child-within w.nodes w.block.nodes w.rows.bits w.rows.length k frame in_group x byte link e)
  step-moves (Some step.Up) e = tt
  step-moves None e = tt

  module _ (after path' : List ℕ) (found : Option Move) (e : visited after path' found ≡ visit w map path k frame left pages) where
    visit-moves : (m : Option Move) → found ≡ m → MoveWithin w left k frame m
    unfolding visit
    visit-moves m q =
        subst (MoveWithin w left k frame) (sym (ap (λ v. v.move) e) ∙ q)
        (step-moves (step_in w.nodes w.block.nodes w.rows.bits w.rows.length k frame) refl)

    pub chain-inside : (link : ℕ) → found ≡ Some (move.Chain link) → frame.group < 7
    chain-inside link q = visit-moves (Some (move.Chain link)) q

    pub past-inside : (byte link n : ℕ) → found ≡ Some (move.Past byte link n) → (0 < left) × (byte < 256)
    past-inside byte link n q = visit-moves (Some (move.Past byte link n)) q

    pub down-inside : (x byte link : ℕ) → found ≡ Some (move.Down x byte link)
        → (0 < left) × (byte < 256) × (x < w.block.nodes) × (k + 1 < w.rows.bytes)
    down-inside x byte link q = visit-moves (Some (move.Down x byte link)) q
