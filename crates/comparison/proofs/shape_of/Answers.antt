-- The function `shape_of` is the definition `shape_of`.
use Prim.Native.Nat.{◌≤◌}
use native.Mathlib.Omega.{arith}
use Rattle.comparison.proofs.Shapes.{bytes-some}
use Rattle.comparison.proofs.shape_of.Goals as goal
use Rattle.comparison.proofs.shape_of.Goals.{After-per_byte}

-- there is a byte
some : (c : After-per_byte) → 1 ≤ c.packed_length-bytes.result
some c = omega (arith, c.packed_length-bytes.ensures, bytes-some c.args.b c.args.n c.requires.bits c.requires.n_nonzero.0)

pub overflow_sub-bytes : goal.overflow_sub-bytes
overflow_sub-bytes c = some c

pub symbols_at-requires-clause-k_bound : goal.symbols_at-requires-clause-k_bound
symbols_at-requires-clause-k_bound c = omega (arith, some c, c.packed_length-bytes.ensures)
