-- The function `test_below` is the definition `test_below`: each turn takes one step of the machine.
use Prim.Native.Nat.{◌+◌, ◌-◌}
use Rattle.std.specs.Prelude.{Some, None}
use mathlib.Core.Path.{◌≡◌, refl, sym, ap, ◌∙◌}
use native.Mathlib.Omega.{arith}
use Rattle.layout.specs.Nodes.{steps_for}
use Rattle.trie_check.proofs.Stack.{safe-start, safe-chain, safe-past, safe-down, safe-up}
use Rattle.trie_check.proofs.Turns.{left-by, run-start, run-spent, run-chain, run_past, run_down, run_up, run-done, run-failed}
use Rattle.trie_visit.proofs.Moves.{chain-inside, past-inside, down-inside}
use Rattle.trie_check.proofs.test.test_below.Goals as goal
use Rattle.trie_check.proofs.test.test_below.Goals.{in-Chain, in-Past, in-Down, in-Up+else-place-eq0}

pub loop-turn-init : goal.loop-turn-init
loop-turn-init c = (
  run-start _ _ _ _ _ _ _ _ (omega arith) c.enter-frame.ensures,
  refl,
  safe-start _ _ _ _ _ _ c.enter-frame.ensures c.requires.root_lt_nodes refl c.args.scope.now.readable.some c.args.scope.now.readable.rows.short,
)

pub next_chain-place-requires : goal.next_chain-place-requires
next_chain-place-requires c = chain-inside _ _ _ _ _ _ _ c.loop-turn.invariant.2.inside.1 _ _ _ c.visit.ensures _ (c.in_ok-next.was ∙ ap Some c.in-Chain.is)

pub past_leaf-place-requires : goal.past_leaf-place-requires
past_leaf-place-requires c =
    let inside = past-inside _ _ _ _ _ _ _ c.loop-turn.invariant.2.inside.1 _ _ _ c.visit.ensures _ _ _ (c.in_ok-next.was ∙ ap Some c.in-Past.is) in
    inside.0

pub returns-then-place-eq0 : goal.returns-then-place-eq0
returns-then-place-eq0 c =
    sym (run-done _ _ _ _ c.loop-turn.place _ (steps_for c.args.scope.now.block.nodes - (c.loop-turn._turn + 1)) (omega arith) _ _ _ c.visit.ensures _ (c.in_ok-next.was ∙ ap Some c.in-Up.is) c.if-place-eq0.true (c.then_some.ensures ∙ left-by _ _))
    ∙ c.loop-turn.invariant.0

pub returns-in_err-next : goal.returns-in_err-next
returns-in_err-next c =
    let up : c.from_residual.result ≡ None = grind arith in
    rw up (sym (run-failed _ _ _ _ c.loop-turn.place _ (steps_for c.args.scope.now.block.nodes - (c.loop-turn._turn + 1)) (omega arith) _ _ _ c.visit.ensures c.in_err-next.was) ∙ c.loop-turn.invariant.0)

pub returns : goal.returns
returns c = sym (run-spent _ _ _ _ c.loop-turn.place _ (omega arith)) ∙ c.loop-turn.invariant.0

pub enter_child-place-requires-clause-x_lt_cap : goal.enter_child-place-requires-clause-x_lt_cap
enter_child-place-requires-clause-x_lt_cap c = let safe = c.loop-turn.invariant.2 in let inside = down-inside _ _ _ _ _ _ _ safe.inside.1 _ _ _ c.visit.ensures _ _ _ (c.in_ok-next.was ∙ ap Some c.in-Down.is) in inside.2

pub enter_child-place-requires-clause-depth_bound : goal.enter_child-place-requires-clause-depth_bound
enter_child-place-requires-clause-depth_bound c = let safe = c.loop-turn.invariant.2 in let inside = down-inside _ _ _ _ _ _ _ safe.inside.1 _ _ _ c.visit.ensures _ _ _ (c.in_ok-next.was ∙ ap Some c.in-Down.is) in (omega (arith, safe.level, safe.levels), inside.0)

pub loop-turn-preserved : goal.loop-turn-preserved
loop-turn-preserved c =
    let turn = c.loop-turn in
    let safe = turn.invariant.2 in
    let long = c.visit.auto.map ∙ turn.invariant.1 in
    elim c.match-next.branch [
      | in-Chain w ↦
          let to = c.in_ok-next.was ∙ ap Some w.in-Chain.is in
          rw (w.place-is, w.stack-is) (
            sym (run-chain _ _ _ _ turn.place _ _ (omega arith) _ _ _ c.visit.ensures _ _ to w.next_chain-place.ensures) ∙ turn.invariant.0,
            long,
            safe-chain c.args.scope.now.nodes.now _ _ turn.place _ safe _ _ w.next_chain-place.ensures (chain-inside _ _ _ _ _ _ _ safe.inside.1 _ _ _ c.visit.ensures _ to),
          )
      | in-Past w ↦
          let to = c.in_ok-next.was ∙ ap Some w.in-Past.is in
          rw (w.place-is, w.stack-is) (
            sym (run_past _ _ _ _ turn.place _ _ (omega arith) _ _ _ c.visit.ensures _ _ _ _ to w.past_leaf-place.ensures) ∙ turn.invariant.0,
            long,
            safe-past c.args.scope.now.nodes.now _ _ turn.place _ safe _ _ _ _ _ w.past_leaf-place.ensures,
          )
      | in-Down w ↦
          let to = c.in_ok-next.was ∙ ap Some w.in-Down.is in
          let inside = down-inside _ _ _ _ _ _ _ safe.inside.1 _ _ _ c.visit.ensures _ _ _ to in
          rw (w.place-is, w.stack-is) (
            sym (run_down _ _ _ _ turn.place _ _ (omega arith) _ _ _ c.visit.ensures _ _ _ _ _ to w.past_child.ensures w.enter_child-place.ensures (omega (arith, safe.level, safe.levels, safe.room))) ∙ turn.invariant.0,
            long,
            safe-down c.args.scope.now.nodes.now _ _ turn.place _ safe _ _ _ _ _ _ _ w.past_child.ensures w.enter_child-place.ensures inside.2 inside.3,
          )
      | in-Up+else-place-eq0 w ↦
          rw (w.place-is, w.stack-is) (
            sym (run_up _ _ _ _ turn.place _ _ (omega arith) _ _ _ c.visit.ensures (c.in_ok-next.was ∙ ap Some w.in-Up.is) (omega arith)) ∙ turn.invariant.0,
            long,
            safe-up c.args.scope.now.nodes.now _ _ turn.place _ safe (omega arith),
          )
    ]
