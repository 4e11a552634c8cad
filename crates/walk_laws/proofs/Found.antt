-- One step of a walk in a node: by what comes next, and by what a child is.
use Prim.Native.Nat.{ℕ, ◌+◌, ◌-◌, ◌%◌, ◌≤◌, ◌<◌}
use native.Mathlib.Omega.{arith}
use mathlib.Core.Path.{◌≡◌, refl, sym, ap, ◌∙◌}
use lib.Bits.{bit_xor}
use lib.ListN.{length, get_or}
use borrow.Author.Tests.{lt-ltb, le-ltb}
use Rattle.std.specs.Prelude.{Option, Some}
use Rattle.meaning.specs.Sketch.{byte_distance}
use Rattle.layout.specs.Nodes.{state_at, inner_state}
use Rattle.layout.specs.States.{kind_of}
use Rattle.layout.specs.declared.nodes.Kind.TheVariants as kind
use Rattle.layout.proofs.States.{inner-kind}
use Rattle.children.specs.Cursors.{next_of}
use Rattle.children.specs.declared.cursor.Next.{Next}
use Rattle.children.specs.declared.cursor.Next.TheVariants as next
use Rattle.descent.specs.Cursor.{ended}
use Rattle.walk_steps.specs.declared.frame.Frame.{Frame}
use Rattle.walk_steps.specs.declared.turn.Move.TheVariants.{Chain, Past, Leaf, Down, Up}
use Rattle.walk_steps.specs.Given.{Given, exact_from}
use Rattle.walk_steps.specs.Turn.{reached, distance_at, found_by, found}
use Rattle.walk_steps.proofs.Turns.{reached-by, reached-exact, reached-down}

-- ---- the step of a walk at a level, by the next child
module _ (w : Given) (level : ℕ) (frame : Frame) where
  found-by : (a : Option Next) → next_of w.nodes w.cap frame.cursor ≡ a → found w level frame ≡ found_by w level frame.radius a
  unfolding found
  found-by a e = ap (found_by w level frame.radius) e

  pub found-chain : (at l : ℕ) → next_of w.nodes w.cap frame.cursor ≡ Some (next.Chain at l) → found w level frame ≡ Some (Chain at l)
  found-chain at l e = found-by (Some (next.Chain at l)) e

  pub found-end : next_of w.nodes w.cap frame.cursor ≡ Some next.End → found w level frame ≡ Some Up
  found-end e = found-by (Some next.End) e

  module _ (x c l : ℕ) (e : next_of w.nodes w.cap frame.cursor ≡ Some (next.Child x c l)) (small : c < 256) where
    abbrev d : ℕ
    d = byte_distance w.b (bit_xor c (get_or w.bytes level 0))

    same-distance : distance_at w level c ≡ d
    same-distance =
        let low : c % 256 ≡ c = omega arith in
        ap (λ k. byte_distance w.b (bit_xor k (get_or w.bytes level 0))) low

    pub found-far : frame.radius < d → found w level frame ≡ Some (Past l)
    found-far h = found-by (Some (next.Child x c l)) e ∙ rw (same-distance, lt-ltb frame.radius d h) refl

    pub found-near : d ≤ frame.radius → found w level frame ≡ reached w x (level + 1) (frame.radius - d) l
    found-near h = found-by (Some (next.Child x c l)) e ∙ rw (same-distance, le-ltb frame.radius d h) refl

-- ---- a child within the radius, by its state
module _ (w : Given) (x level radius l : ℕ) where
  pub to-leaf : (first : ℕ) → kind_of w.nodes w.cap x ≡ kind.Leaf first → reached w x level radius l ≡ Some (Leaf (ended first) l)
  to-leaf first e = sym (reached-by w x level radius l _ refl (kind.Leaf first) e)

  module _ (e : get_or w.nodes (state_at w.cap x) 0 ≡ inner_state) where
    pub to-exact : radius ≡ 0 → reached w x level radius l ≡ Some (Leaf (exact_from w x level) l)
    to-exact z = sym (reached-exact w x level radius l _ refl (inner-kind w.nodes w.cap x e) z (exact_from w x level) refl)

    pub to_inner : 0 < radius → level < length w.bytes → reached w x level radius l ≡ Some (Down x radius l)
    to_inner z h = sym (reached-down w x level radius l _ refl (inner-kind w.nodes w.cap x e) (λ y. absurd (omega arith)) h)
