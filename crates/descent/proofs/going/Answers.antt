-- `going` is its definition: those before i are counted.
use native.Mathlib.Omega.{arith}
use Rattle.descent.proofs.Rounds.{at, goes-byte, goes-most, going-most}
use Rattle.descent.proofs.going.Goals as goal

pub overflow_add-count : goal.overflow_add-count
overflow_add-count c = record { fits = omega (arith, c.loop-i.auto.i-end, c.loop-i.invariant, c.requires, going-most c.args.cursors c.loop-i.i, goes-byte (at c.args.cursors c.loop-i.i), goes-most (at c.args.cursors c.loop-i.i)) }
