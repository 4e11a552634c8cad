-- `group_of` is `group`: a shift and a mask.
use Prim.Native.Nat.{◌*◌, ◌≤◌}
use native.Mathlib.Nat.{le_of_lt}
use native.Mathlib.Omega.{arith}
use lib.Bits.{and_mask}
use Rattle.meaning.specs.Sketch.{group}
use Rattle.sketch.proofs.Width.{shifted, bits-within}
use Rattle.sketch.proofs.packing.group_of.Goals as goal
use Rattle.sketch.proofs.packing.group_of.Goals.{Start}

-- the group's bits lie in the byte
within : (c : Start) → c.args.b * c.args.i ≤ 8
within c = bits-within c.args.b c.args.i (le_of_lt c.requires.i_bound)

pub overflow_mul-result : goal.overflow_mul-result
overflow_mul-result c = omega (arith, within c)

pub overflow_cast-result-3 : goal.overflow_cast-result-3
overflow_cast-result-3 c = omega (arith, within c)

pub overflow_shr-result : goal.overflow_shr-result
overflow_shr-result c = omega (arith, within c)

pub returns : goal.returns
unfolding group
returns c = rw (shifted c.args.b c.requires.bits.1) (and_mask _ c.args.b)
