-- `signature_of` is `signature`: s is the bytes from place k on, folded.
use Prim.Native.Nat.{◌+◌, ◌-◌, ◌*◌, ◌≤◌}
use native.Mathlib.Omega.{arith}
use lib.ListN.{length}
use Rattle.signature.proofs.Rows.{row-none, row_ends, row_fits, row-turn}
use Rattle.signature.proofs.signature_of.Goals as goal
use Rattle.signature.proofs.signature_of.Goals.{After-symbols_at-count}

-- the byte's symbols lie in the row
ends : (c : After-symbols_at-count) →
    (c.loop-k.k - 1) * c.per_byte-z.result + c.symbols_at-count.result
    ≤ length c.args.row.now
ends c = search row_ends

pub loop-k-init : goal.loop-k-init
loop-k-init c = search (row-none, arith)

pub overflow_mul-k : goal.overflow_mul-k
overflow_mul-k c = omega (arith, ends c)

pub loop-k-preserved : goal.loop-k-preserved
loop-k-preserved c = search (row-turn, arith)

pub row_byte-requires-clause-count_bound : goal.row_byte-requires-clause-count_bound
row_byte-requires-clause-count_bound c = search (row_fits, row_ends)

pub row_byte-requires-clause-count_in_bounds : goal.row_byte-requires-clause-count_in_bounds
row_byte-requires-clause-count_in_bounds c = search (row_fits, row_ends)
