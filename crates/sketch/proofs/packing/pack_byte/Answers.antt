-- The function `pack_byte` is the definition `pack_byte`: at each turn v is the byte of the symbols from place i on.
use mathlib.Core.Path.{◌≡◌}
use Prim.Native.Nat.{ℕ, ◌+◌, ◌-◌, ◌*◌, ◌%◌, ◌^◌, ◌<◌}
use native.Mathlib.Omega.{arith}
use lib.ListN.{drop, get_or}
use Rattle.meaning.specs.Sketch.{pack_byte}
use Rattle.sketch.proofs.Bytes.{byte_fits, byte_step}
use Rattle.sketch.proofs.packing.pack_byte.Goals as goal
use Rattle.sketch.proofs.packing.pack_byte.Goals.{At-loop-i, In-loop-i}

-- the byte of the symbols from any place on
fits : (c : At-loop-i) (i : ℕ) → pack_byte c.args.b (drop i c.args.xs.now) < 256
fits c = byte_fits c.args.b c.args.xs.now c.requires.xs_len_bound c.requires.xs_value

-- v after the turn
turned : (c : In-loop-i) →
    let args = c.args in
    c.loop-i.v * 2 ^ args.b % 2 ^ 32 + get_or args.xs.now (c.loop-i.i - 1) 0
    ≡ pack_byte args.b (drop (c.loop-i.i - 1) args.xs.now)
turned c =
    let start = c in
    let inv = c.loop-i.invariant in
    byte_step start.args.b start.args.xs.now start.requires.xs_len_bound start.requires.xs_value _ _ start.requires.bits.1 c.loop-i-test.true (omega arith) inv

pub overflow_add-v : goal.overflow_add-v
overflow_add-v c = omega (arith, turned (goal.at.overflow_add-v c).In-loop-i, fits (goal.at.overflow_add-v c).At-loop-i (c.loop-i.i - 1))

pub loop-i-preserved : goal.loop-i-preserved
loop-i-preserved c = turned (goal.at.loop-i-preserved c).In-loop-i

pub overflow_cast-result : goal.overflow_cast-result
overflow_cast-result c = omega (arith, fits (goal.at.overflow_cast-result c).At-loop-i c.loop-i.i)
