-- `go_over` joins the bits and counts the places that differ, place by place.
use Prim.Native.Nat.{◌+◌}
use native.Mathlib.Omega.{arith}
use lib.Bits.{bit_or}
use lib.ListN.{get_or, take}
use Rattle.sketch.specs.Pass.{GoneOver}
use Rattle.sketch.proofs.Passes.{over_none, over-more, over-most, over-all}
use Rattle.sketch.proofs.Places.{differ}
use Rattle.sketch.proofs.symbols.go_over.Goals as goal
use Rattle.sketch.proofs.symbols.go_over.Goals.{In-loop-i}

-- after the turn
turned : (c : In-loop-i) →
    let args = c.args in
    let loop = c.loop-i in
    let x = get_or args.xs.now loop.i 0 in
    let y = get_or args.ys.now loop.i 0 in
    GoneOver (take (loop.i + 1) args.xs.now) (take (loop.i + 1) args.ys.now) (bit_or loop.bits (bit_or x y)) (loop.d + differ x y)
turned c =
    let args = c.args in
    over-more args.xs.now args.ys.now _ _ _ (omega arith) (omega arith) c.loop-i.invariant

pub loop-i-init : goal.loop-i-init
loop-i-init c = over_none c.args.xs.now c.args.ys.now

pub overflow_add-d : goal.overflow_add-d
overflow_add-d c =
    let at_turn = c in
    let args = at_turn.args in
    omega (arith, over-most args.xs.now args.ys.now (at_turn.loop-i.i + 1) _ _ (turned (goal.at.overflow_add-d at_turn).In-loop-i))

pub loop-i-preserved : goal.loop-i-preserved
loop-i-preserved c = turned (goal.at.loop-i-preserved c).In-loop-i

pub returns : goal.returns
returns c = over-all c.args.xs.now c.args.ys.now c.loop-i.i _ _ (omega arith) (omega arith) c.loop-i.invariant
