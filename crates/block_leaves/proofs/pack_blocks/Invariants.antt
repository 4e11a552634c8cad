use Rattle.layout.specs.Headers.{numbers}
use Rattle.block_leaves.proofs.Blocks.{PackedTo}
use Rattle.block_leaves.proofs.pack_blocks.Given as goal

abbrev pub invariant-loop-j : goal.invariant-loop-j
invariant-loop-j l = PackedTo (numbers l.h) l.sketch l.out l.j
