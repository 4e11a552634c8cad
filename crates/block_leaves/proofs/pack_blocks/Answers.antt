-- `pack_blocks`: the blocks before j are packed.
use Rattle.block_leaves.proofs.Blocks.{packed-fits, packed-next}
use Rattle.block_leaves.proofs.pack_blocks.Goals as goal

pub loop-j-preserved : goal.loop-j-preserved
loop-j-preserved c =
    let pre = c.requires in
    packed-next _ _ c.args.h.limits pre.sketch_len c.loop-j.invariant c.loop-j-test.true _ c.pack_block.ensures

pub pack_block-requires-clause-j_in_bounds : goal.pack_block-requires-clause-j_in_bounds
pack_block-requires-clause-j_in_bounds c = let pre = c.requires in let loop = c.loop-j in packed-fits _ _ c.args.h.limits pre.sketch_len loop.invariant c.loop-j-test.true
