-- The machine of the test from one state to another: what it costs, and its single steps.
use Rattle.std.specs.Prelude.{Option, Some}
use Prim.Native.Nat.{ℕ, suc, ◌+◌, ◌-◌, ◌≤◌, ◌<◌}
use native.Mathlib.Omega.{arith}
use mathlib.Core.Path.{◌≡◌, refl, ap, ◌∙◌}
use mathlib.Core.Bool.{true}
use mathlib.Core.List.{List, [], ◌∷◌}
use lib.Dec.{eqb}
use lib.ListN.{length, set}
use borrow.Author.Tests.{ne_eqb}
use Rattle.meaning.specs.Sketch.{packable}
use Rattle.children.specs.declared.order.Frame.{Frame}
use Rattle.children.specs.declared.order.Step.{Step}
use Rattle.children.specs.declared.order.Step.TheVariants as step
use Rattle.node_check.specs.declared.leaf.Kind.{Kind}
use Rattle.trie_visit.specs.declared.Move.TheVariants as move
use Rattle.node_check.specs.Mark.{noted, mark_once}
use Rattle.node_check.specs.Leaf.{kind_of}
use Rattle.children.specs.Order.{entered, past_child, next_chain, next_child}
use Rattle.node_check.specs.Frame.{step_in}
use Rattle.node_check.specs.Given.{Given}
use Rattle.trie_visit.specs.Visit.{Visited, visited, child_move, on_mark, visit_child, on_child, visit_step, visit}
use Rattle.trie_check.specs.Trie.{State, state, Tested, tested, left_if, follow, run}

-- ---- from state to state
pub record Ran (w : Given) (f : ℕ) (s s' : State) (cost : ℕ) : Type 0 where
  pub rest : ℕ
  pub enough : f ≤ rest + cost
  pub same : run w f s ≡ run w rest s'

module _ (w : Given) where
  pub ran-none : (f : ℕ) (s : State) → Ran w f s s 0
  ran-none f s = record { rest = f; enough = omega arith; same = refl }

  pub ran_then : (f : ℕ) (s t u : State) (c d : ℕ) (r : Ran w f s t c) → Ran w r.rest t u d → Ran w f s u (c + d)
  ran_then f s t u c d r q = record { rest = q.rest; enough = omega (arith, r.enough, q.enough); same = r.same ∙ q.same }

  pub ran-within : (f : ℕ) (s t : State) (c d : ℕ) → c ≤ d → Ran w f s t c → Ran w f s t d
  ran-within f s t c d l r = record { rest = r.rest; enough = omega (arith, r.enough); same = r.same }

  pub ran_to : (f : ℕ) (s t u : State) (c : ℕ) → t ≡ u → Ran w f s t c → Ran w f s u c
  ran_to f s t u c e r = record { rest = r.rest; enough = r.enough; same = r.same ∙ ap (run w r.rest) e }

  ran-step : (f : ℕ) (s s' : State) → run w f s ≡ run w (f - 1) s' → Ran w f s s' 1
  ran-step f s s' e = record { rest = f - 1; enough = omega arith; same = e }

  -- a step in a node at the level of the stack
  abbrev pub step_at : Frame → List Frame → Option Step
  step_at frame stack = step_in w.nodes w.block.nodes w.rows.bits w.rows.length (length stack) frame

-- ---- single steps
module _ (w : Given) (f : ℕ) (some : 0 < f) (map path : List ℕ) (left pages : ℕ) (frame : Frame) where
  run_by : (stack : List Frame) (s : Option Step) → step_at w frame stack ≡ s → (v : Visited) → visit_step w map path (length stack) left pages s ≡ v
      → run w f (state map path left pages frame stack) ≡ follow w (run w (f - 1)) (state map path left pages frame stack) v v.move
  unfolding run visit
  run_by stack s e v q =
      let back : f ≡ suc (f - 1) = omega arith in
      ap (λ n. run w n (state map path left pages frame stack)) back
      ∙ ap (λ t. turned (visit_step w map path (length stack) left pages t)) e
      ∙ ap turned q
    where
      turned : Visited → Tested
      turned v = follow w (run w (f - 1)) (state map path left pages frame stack) v v.move

  pub step-chain : (stack : List Frame) (link : ℕ) → step_at w frame stack ≡ Some (step.Chain link)
      → Ran w f (state map path left pages frame stack) (state map path left pages (next_chain frame link) stack) 1
  step-chain stack link e =
      ran-step w f (state map path left pages frame stack) (state map path left pages (next_chain frame link) stack)
      (run_by stack (Some (step.Chain link)) e (visited map path (Some (move.Chain link))) refl)

  pub step-up : (back : Frame) (stack : List Frame) → step_at w frame (back ∷ stack) ≡ Some step.Up
      → Ran w f (state map path left pages frame (back ∷ stack)) (state map path left pages back stack) 1
  step-up back stack e =
      ran-step w f (state map path left pages frame (back ∷ stack)) (state map path left pages back stack)
      (run_by (back ∷ stack) (Some step.Up) e (visited map path (Some move.Up)) refl)

  pub step_end : step_at w frame [] ≡ Some step.Up → run w f (state map path left pages frame []) ≡ tested map (left_if left (eqb pages 0))
  step_end e = run_by [] (Some step.Up) e (visited map path (Some move.Up)) refl

  -- to a child, by what the visit says
  module _ (stack : List Frame) (x byte link : ℕ) (e : step_at w frame stack ≡ Some (step.Child x byte link)) (l : 0 < left) (map' : List ℕ)
      (q : mark_once w.window map x ≡ noted map' true) (kind : Option Kind) (k : kind_of w.nodes w.block.nodes x ≡ kind) where
    abbrev path' : List ℕ
    path' = set path (length stack) byte

    visited-child : visit_step w map path (length stack) left pages (Some (step.Child x byte link))
        ≡ visited map' path' (child_move w path' (length stack) x byte link pages kind)
    unfolding visit_child
    visited-child =
        rw (ne_eqb left 0 (omega arith))
        (ap (λ n. on_child w path' (on_mark w n (child_move w path' (length stack) x byte link pages (kind_of w.nodes w.block.nodes x)))) q
        ∙ ap (λ t. visited map' path' (child_move w path' (length stack) x byte link pages t)) k)

    pub step_past : (n : ℕ) → child_move w path' (length stack) x byte link pages kind ≡ Some (move.Past byte link n)
        → Ran w f (state map path left pages frame stack) (state map' path' (left - 1) n (past_child frame byte link) stack) 1
    step_past n m =
        ran-step w f (state map path left pages frame stack) (state map' path' (left - 1) n (past_child frame byte link) stack)
        (run_by stack (Some (step.Child x byte link)) e (visited map' path' (Some (move.Past byte link n))) (visited-child ∙ ap (visited map' path') m))

    pub step_down : child_move w path' (length stack) x byte link pages kind ≡ Some (move.Down x byte link)
        → Ran w f (state map path left pages frame stack)
        (state map' path' (left - 1) pages (entered w.nodes w.block.nodes x) (past_child frame byte link ∷ stack)) 1
    step_down m =
        ran-step w f (state map path left pages frame stack)
        (state map' path' (left - 1) pages (entered w.nodes w.block.nodes x) (past_child frame byte link ∷ stack))
        (run_by stack (Some (step.Child x byte link)) e (visited map' path' (Some (move.Down x byte link))) (visited-child ∙ ap (visited map' path') m))

-- ---- a step of a node's children, in a node at level k
module _ (N : List ℕ) (cap b n k : ℕ) (frame : Frame) where
  pub to-child : (x c l : ℕ) → next_child N cap frame ≡ Some (step.Child x c l) → packable b n k c ≡ true → step_in N cap b n k frame ≡ Some (step.Child x c l)
  unfolding step_in
  to-child x c l e p = rw (e, p) refl

  pub to-chain : (l : ℕ) → next_child N cap frame ≡ Some (step.Chain l) → step_in N cap b n k frame ≡ Some (step.Chain l)
  unfolding step_in
  to-chain l e = rw e refl

  pub to-up : next_child N cap frame ≡ Some step.Up → step_in N cap b n k frame ≡ Some step.Up
  unfolding step_in
  to-up e = rw e refl
