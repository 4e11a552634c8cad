-- The function `packed_length` is the definition `packed_length`.
use native.Mathlib.Omega.{arith}
use Rattle.sketch.proofs.Width.{z-pos, z-most}
use Rattle.sketch.proofs.limits.packed_length.Goals as goal

pub overflow_add-result : goal.overflow_add-result
overflow_add-result c = omega (arith, z-most c.args.b)

pub overflow_sub-result : goal.overflow_sub-result
overflow_sub-result c = omega (arith, z-pos c.args.b c.requires.bits)

pub nonzero_div-result : goal.nonzero_div-result
nonzero_div-result c = omega (arith, z-pos c.args.b c.requires.bits)
