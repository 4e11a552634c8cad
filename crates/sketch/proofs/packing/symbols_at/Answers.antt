-- The function `symbols_at` is the definition `symbols_at`.
use Prim.Native.Nat.{◌*◌, ◌<◌}
use native.Mathlib.Omega.{arith}
use Rattle.sketch.proofs.Width.{byte-begins}
use Rattle.sketch.proofs.packing.symbols_at.Goals as goal
use Rattle.sketch.proofs.packing.symbols_at.Goals.{After-per_byte-z}

begins : (c : After-per_byte-z) → c.args.k * c.per_byte-z.result < c.args.n
begins c =
    rw c.per_byte-z.ensures
    (byte-begins c.args.b c.args.n c.args.k c.requires.bits c.requires.k_bound)

pub overflow_mul-left : goal.overflow_mul-left
overflow_mul-left c = omega (arith, begins c)

pub overflow_sub-left : goal.overflow_sub-left
overflow_sub-left c = omega (arith, begins c)
