use Rattle.layout.specs.Headers.{numbers}
use Rattle.block_leaves.proofs.Blocks.{StartedTo}
use Rattle.block_leaves.proofs.start_all.Given as goal

abbrev pub invariant-loop-j : goal.invariant-loop-j
invariant-loop-j l = StartedTo (numbers l.h) l.nodes l.bytes l.cursors l.j
