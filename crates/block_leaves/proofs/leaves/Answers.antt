-- `leaves`: the leaves that the descents led to are those of the blocks.
use Rattle.block_leaves.proofs.Blocks.{started-inside, leaves_all}
use Rattle.block_leaves.proofs.leaves.Goals as goal

pub returns : goal.returns
returns c =
    let pre = c.requires in
    leaves_all _ _ _ _ c.args.h.limits pre.sketch_len c.pack_blocks.ensures _ c.start_all-started.ensures _ c.descend-found.ensures c.leaves_of.ensures

pub descend-found-requires-clause-all_inside : goal.descend-found-requires-clause-all_inside
descend-found-requires-clause-all_inside c = let pre = c.requires in let long = c.pack_blocks.ensures.long in started-inside _ _ _ c.start_all-started.ensures c.args.h.limits long
