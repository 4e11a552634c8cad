-- Steps of the machine, and walks from a root.
use Prim.Native.Nat.{ℕ, ◌-◌, ◌<◌}
use native.Mathlib.Omega.{arith}
use mathlib.Core.Path.{◌≡◌, refl, sym, ap, ◌∙◌}
use mathlib.Core.List.{List, []}
use lib.ListN.{length}
use borrow.Author.Tests.{eq-eqb, ne_eqb}
use Rattle.std.specs.Prelude.{Option}
use Rattle.meaning.proofs.Stacks.{suc-pred}
use Rattle.layout.specs.States.{kind_of}
use Rattle.layout.specs.declared.nodes.Kind.{Kind}
use Rattle.walk_steps.specs.declared.frame.Frame.{Frame}
use Rattle.walk_steps.specs.declared.turn.Move.{Move}
use Rattle.walk_steps.specs.Given.{Given, exact_from}
use Rattle.walk_steps.specs.Turn.{found, reads}
use Rattle.walk.specs.Leaves.{Leaves, leaves, broken, spend}
use Rattle.walk.specs.Walk.{state, leaf_then, follow, run, walk_as, walk_from}

module _ (w : Given) (f nodes : ℕ) (frame : Frame) (stack : List Frame) where
  pub run-spent : f ≡ 0 → run w f nodes (state frame stack) ≡ broken
  unfolding run
  run-spent e = rw e refl

  pub run_by : 0 < f → (depth : ℕ) → length stack ≡ depth → (m : Option Move) → found w depth frame ≡ m
      → run w f nodes (state frame stack) ≡ spend nodes (reads m) (λ k. follow w (run w (f - 1)) k frame stack m)
  unfolding run
  run_by some depth level m e =
      ap (λ n. run w n nodes (state frame stack)) (suc-pred f some) ∙ ap (λ n. by (found w n frame)) level ∙ ap by e
    where
      by : Option Move → Leaves
      by q = spend nodes (reads q) (λ k. follow w (run w (f - 1)) k frame stack q)

module _ (w : Given) (root radius nodes : ℕ) where
  pub from-exact : radius ≡ 0 → leaf_then w (leaves []) nodes (exact_from w root 0) ≡ walk_from w root radius nodes
  unfolding walk_from
  from-exact z = rw (eq-eqb radius 0 z) refl

  pub from-by : 0 < radius → (is : Kind) → is ≡ kind_of w.nodes w.cap root → (k : Kind) → is ≡ k
      → walk_as w root radius nodes k ≡ walk_from w root radius nodes
  unfolding walk_from
  from-by some is e k q = rw (ne_eqb radius 0 (omega arith)) (ap (walk_as w root radius nodes) (sym q ∙ e))
