-- On any tables a walk leaves no more of the nodes than it was given.
use Prim.Native.Nat.{ℕ, zero, suc, ◌-◌, ◌≤◌}
use native.Mathlib.Omega.{arith}
use mathlib.Core.Path.{◌≡◌, subst}
use mathlib.Core.Bool.{Bool, true, false, cond}
use mathlib.Core.List.{List, [], ◌∷◌}
use lib.Dec.{ltb, eqb}
use lib.ListN.{length}
use Rattle.std.specs.Prelude.{Option, Some, None}
use Rattle.layout.specs.Nodes.{steps_for}
use Rattle.layout.specs.States.{kind_of}
use Rattle.layout.specs.declared.nodes.Kind.{Kind}
use Rattle.layout.specs.declared.nodes.Kind.TheVariants as kind
use Rattle.descent.specs.declared.Cursor.{Cursor}
use Rattle.walk_steps.specs.declared.frame.Frame.{Frame}
use Rattle.walk_steps.specs.declared.turn.Move.{Move}
use Rattle.walk_steps.specs.declared.turn.Move.TheVariants as move
use Rattle.walk_steps.specs.Given.{Given, exact_from, leaf_from, drawn_from}
use Rattle.walk_steps.specs.Turn.{entered, at_link, found, reads}
use Rattle.walk.specs.Leaves.{Leaves, leaves, broken, before, spend}
use Rattle.walk.specs.Walk.{State, state, leaf_then, follow, run, walk_below, walk_as, walk_from}

abbrev AtMost : ℕ → Leaves → Type 0
AtMost n (leaves ls k) = k ≤ n
AtMost n broken = Unit {0}

at_most : (n m : ℕ) → n ≤ m → (x : Leaves) → AtMost n x → AtMost m x
at_most n m l (leaves ls k) h = omega arith
at_most n m l broken h = tt

before-most : (n : ℕ) (ls : List ℕ) (x : Leaves) → AtMost n x → AtMost n (before ls x)
before-most n ls (leaves ms k) h = h
before-most n ls broken h = tt

spend-most : (n d : ℕ) (go : ℕ → Leaves) → ((k : ℕ) → AtMost k (go k)) → AtMost n (spend n d go)
spend-most n d go h = by (ltb n d)
  where
    by : (t : Bool) → AtMost n (cond t broken (go (n - d)))
    by true = tt
    by false = at_most (n - d) n (omega arith) (go (n - d)) (h (n - d))

module _ (w : Given) where
  leaf-most : (go : ℕ → Leaves) → ((k : ℕ) → AtMost k (go k)) → (n : ℕ) (c : Cursor) → AtMost n (leaf_then w go n c)
  leaf-most go h n c =
      spend-most n (drawn_from w c) (λ k. before (leaf_from w c ∷ []) (go k)) (λ k. before-most k (leaf_from w c ∷ []) (go k) (h k))

  follow-most : (go : ℕ → State → Leaves) → ((k : ℕ) (s : State) → AtMost k (go k s))
      → (n : ℕ) (frame : Frame) (stack : List Frame) (m : Option Move) → AtMost n (follow w go n frame stack m)
  follow-most go h n frame stack (Some (move.Chain at link)) = h n _
  follow-most go h n frame stack (Some (move.Past link)) = h n _
  follow-most go h n frame stack (Some (move.Leaf c link)) =
      leaf-most (λ k. go k (state (at_link frame link) stack)) (λ k. h k (state (at_link frame link) stack)) n c
  follow-most go h n frame stack (Some (move.Down x radius link)) = h n _
  follow-most go h n frame [] (Some move.Up) = omega arith
  follow-most go h n frame (f ∷ fs) (Some move.Up) = h n _
  follow-most go h n frame stack None = tt

  run-most : (f n : ℕ) (s : State) → AtMost n (run w f n s)
  unfolding run
  run-most zero n s = tt
  run-most (suc f) n s =
      let m : Option Move = found w (length s.stack) s.frame in
      spend-most n (reads m) (λ k. follow w (run w f) k s.frame s.stack m) (λ k. follow-most (run w f) (run-most f) k s.frame s.stack m)

  walk-most : (root radius n : ℕ) → AtMost n (walk_from w root radius n)
  unfolding walk_from walk_below
  walk-most root radius n = go (eqb radius 0) (kinds (kind_of w.nodes w.cap root))
    where
      kinds : (k : Kind) → AtMost n (walk_as w root radius n k)
      kinds kind.Free = tt
      kinds (kind.Leaf first) = omega arith
      kinds kind.Inner = run-most (steps_for w.cap) n (state (entered w.nodes w.cap root radius) [])

      go : (q : Bool) → AtMost n (walk_as w root radius n (kind_of w.nodes w.cap root))
          → AtMost n (cond q (leaf_then w (leaves []) n (exact_from w root 0)) (walk_as w root radius n (kind_of w.nodes w.cap root)))
      go true h = leaf-most (leaves []) (λ k. omega arith) n (exact_from w root 0)
      go false h = h

  pub walk-left : (root radius n : ℕ) (ls : List ℕ) (k : ℕ) → walk_from w root radius n ≡ leaves ls k → k ≤ n
  walk-left root radius n ls k e = subst (AtMost n) e (walk-most root radius n)
