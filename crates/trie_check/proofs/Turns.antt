-- The turns of the test, by where a visit leads.
use Rattle.std.specs.Bool.{then_some}
use Rattle.std.specs.Prelude.{Option, Some, None}
use Prim.Native.Nat.{ℕ, suc, ◌+◌, ◌-◌, ◌<◌}
use mathlib.Core.Path.{◌≡◌, refl, sym, ap, ◌∙◌}
use mathlib.Core.Bool.{Bool, true, false}
use mathlib.Core.List.{List, [], ◌∷◌}
use lib.Dec.{eqb}
use lib.ListN.{length, get_or, replicate, set}
use Rattle.meaning.proofs.Stacks.{length_none, above, above-length, above-put, above-take}
use Rattle.layout.specs.Nodes.{steps_for}
use Rattle.children.specs.declared.order.Frame.{Frame}
use Rattle.trie_visit.specs.declared.Place.{Place}
use Rattle.trie_visit.specs.declared.Move.{Move}
use Rattle.trie_visit.specs.declared.Move.TheVariants as move
use Rattle.children.specs.Order.{entered, past_child, next_chain}
use Rattle.node_check.specs.Given.{Given}
use Rattle.trie_visit.specs.Visit.{Visited, visited, visit, placed}
use Rattle.trie_check.specs.Trie.{State, state, Tested, tested, left_if, follow, run, test_below}
use Rattle.trie_check.proofs.Stack.{no_frame}

-- what is left where a test holds, as the code says it
pub left-by : (left : ℕ) (q : Bool) → then_some q left ≡ left_if left q
unfolding left_if
left-by left true = refl
left-by left false = refl

-- the machine at a place, with the frames of the nodes above in an array
abbrev state_at : List ℕ → List ℕ → Place → List Frame → State
state_at map path at array = state map path at.left at.pages at.frame (above no_frame array at.depth)

abbrev pub run_at : Given → ℕ → List ℕ → List ℕ → Place → List Frame → Tested
run_at w f map path at array = run w f (state_at map path at array)

module _ (w : Given) (f : ℕ) (map path : List ℕ) (at : Place) (array : List Frame) where
  pub run-spent : f ≡ 0 → run_at w f map path at array ≡ tested map None
  unfolding run
  run-spent e = rw e refl

  module _ (fuel : ℕ) (some : f ≡ suc fuel) (after path' : List ℕ) (found : Option Move)
      (e : visited after path' found ≡ visit w map path at.depth at.frame at.left at.pages) where
    run_by : (m : Option Move) → found ≡ m
        → run_at w f map path at array ≡ follow w (run w fuel) (state_at map path at array) (visited after path' m) m
    unfolding run
    run_by m q =
        ap (λ n. run w n (state_at map path at array)) some
        ∙ ap (λ n. turned (visit w map path n at.frame at.left at.pages)) (above-length no_frame array at.depth)
        ∙ ap turned (sym e)
        ∙ ap (λ t. turned (visited after path' t)) q
      where
        turned : Visited → Tested
        turned v = follow w (run w fuel) (state_at map path at array) v v.move

    pub run-chain : (link : ℕ) (frame : Frame) → found ≡ Some (move.Chain link) → frame ≡ next_chain at.frame link
        → run_at w f map path at array ≡ run_at w fuel after path' (placed at.depth frame at.left at.pages) array
    run-chain link frame q g =
        run_by (Some (move.Chain link)) q ∙ ap (λ x. run_at w fuel after path' (placed at.depth x at.left at.pages) array) (sym g)

    pub run_past : (byte link n : ℕ) (next : Place) → found ≡ Some (move.Past byte link n)
        → next ≡ placed at.depth (past_child at.frame byte link) (at.left - 1) n
        → run_at w f map path at array ≡ run_at w fuel after path' next array
    run_past byte link n next q g = run_by (Some (move.Past byte link n)) q ∙ ap (λ p. run_at w fuel after path' p array) (sym g)

    pub run_down : (x byte link : ℕ) (rest : Frame) (next : Place) → found ≡ Some (move.Down x byte link) → rest ≡ past_child at.frame byte link
        → next ≡ placed (at.depth + 1) (entered w.nodes w.block.nodes x) (at.left - 1) at.pages → at.depth < length array
        → run_at w f map path at array ≡ run_at w fuel after path' next (set array at.depth rest)
    run_down x byte link rest next q r g l =
        run_by (Some (move.Down x byte link)) q
        ∙ ap (λ fs. run w fuel (state after path' (at.left - 1) at.pages (entered w.nodes w.block.nodes x) fs))
        (ap (λ t. t ∷ above no_frame array at.depth) (sym r) ∙ sym (above-put no_frame array at.depth rest l))
        ∙ ap (λ p. run_at w fuel after path' p (set array at.depth rest)) (sym g)

    pub run_up : found ≡ Some move.Up → 0 < at.depth
        → run_at w f map path at array
        ≡ run_at w fuel after path' (placed (at.depth - 1) (get_or array (at.depth - 1) no_frame) at.left at.pages) array
    run_up q l =
        run_by (Some move.Up) q
        ∙ ap (λ fs. follow w (run w fuel) (state map path at.left at.pages at.frame fs) (visited after path' (Some move.Up)) (Some move.Up))
        (above-take no_frame array at.depth l)

    pub run-done : (answer : Option ℕ) → found ≡ Some move.Up → at.depth ≡ 0 → answer ≡ left_if at.left (eqb at.pages 0)
        → run_at w f map path at array ≡ tested after answer
    run-done answer q z a =
        run_by (Some move.Up) q
        ∙ ap (λ fs. follow w (run w fuel) (state map path at.left at.pages at.frame fs) (visited after path' (Some move.Up)) (Some move.Up))
        (length_none (above no_frame array at.depth) (above-length no_frame array at.depth ∙ z))
        ∙ ap (tested after) (sym a)

    pub run-failed : found ≡ None → run_at w f map path at array ≡ tested after None
    run-failed q = run_by None q

pub run-start : (w : Given) (root : ℕ) (map : List ℕ) (left pages : ℕ) (frame : Frame) (array : List Frame) (f : ℕ) → f ≡ steps_for w.block.nodes
    → frame ≡ entered w.nodes w.block.nodes root
    → run_at w f map (replicate 64 0) (placed 0 frame left pages) array ≡ test_below w root map left pages
unfolding test_below above
run-start w root map left pages frame array f all e =
    ap (λ n. run_at w n map (replicate 64 0) (placed 0 frame left pages) array) all
    ∙ ap (λ x. run w (steps_for w.block.nodes) (state map (replicate 64 0) left pages x [])) e
