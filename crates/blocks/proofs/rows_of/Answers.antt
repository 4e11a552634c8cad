-- The function `rows_of` is the definition `rows_of`.
use native.Mathlib.Omega.{arith}
use Rattle.sketch.proofs.BlockEnds.{block-ends}
use Rattle.blocks.proofs.rows_of.Goals as goal

pub packed_length-requires-clause-n_bound : goal.packed_length-requires-clause-n_bound
packed_length-requires-clause-n_bound c = let start = c in rw c.block_length-length.ensures (omega (arith, block-ends start.args.h.m start.args.h.q start.args.j start.requires.j_lt_q))
