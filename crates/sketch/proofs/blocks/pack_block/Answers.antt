-- `pack_block` packs the block: the part from its start on goes to `pack_into`.
use mathlib.Core.Path.{◌≡◌}
use Prim.Native.Nat.{◌+◌, ◌-◌, ◌≤◌}
use native.Mathlib.Omega.{arith}
use lib.ListN.{length, take, drop, length-drop}
use Rattle.sketch.proofs.BlockEnds.{block-ends}
use Rattle.sketch.proofs.Lists.{rest}
use Rattle.sketch.proofs.Places.{part-range}
use Rattle.sketch.proofs.blocks.pack_block.Goals as goal
use Rattle.sketch.proofs.blocks.pack_block.Goals.{After-block_length-n}

-- the block ends inside the sketch
ends : (c : After-block_length-n) → c.block_start-start.result + c.block_length-n.result ≤ c.args.m
ends c =
    let start = c in
    rw (c.block_start-start.ensures, c.block_length-n.ensures) (block-ends start.args.m start.args.q start.args.j start.requires.j_lt_q)

-- the part that is passed
passed : (c : After-block_length-n) →
    let sketch = c.args.sketch.now in
    let at = c.block_start-start.result in
    take (length sketch - at) (drop at sketch) ≡ drop at sketch
passed c = rest c.block_start-start.result c.args.sketch.now

pub slice_bounds-pack_into-count : goal.slice_bounds-pack_into-count
slice_bounds-pack_into-count c = omega (arith, ends c)

pub slice_bounds-pack_into-start : goal.slice_bounds-pack_into-start
slice_bounds-pack_into-start c = omega (arith, ends c)

pub pack_into-requires-clause-n_bound : goal.pack_into-requires-clause-n_bound
pack_into-requires-clause-n_bound c = let start = c in let at = c.block_start-start.result in let n = c.block_length-n.result in let sketch = start.args.sketch.now in (omega (arith, ends (goal.at.pack_into-requires-clause-n_bound c).After-block_length-n))

pub pack_into-requires-clause-n_in_bounds : goal.pack_into-requires-clause-n_in_bounds
pack_into-requires-clause-n_in_bounds c = let start = c in let at = c.block_start-start.result in let n = c.block_length-n.result in let sketch = start.args.sketch.now in rw (passed (goal.at.pack_into-requires-clause-n_in_bounds c).After-block_length-n) (omega (arith, ends (goal.at.pack_into-requires-clause-n_in_bounds c).After-block_length-n, length-drop at sketch))

pub pack_into-requires-clause-xs_value : goal.pack_into-requires-clause-xs_value
pack_into-requires-clause-xs_value c = let start = c in let at = c.block_start-start.result in let n = c.block_length-n.result in let sketch = start.args.sketch.now in rw (passed (goal.at.pack_into-requires-clause-xs_value c).After-block_length-n) (part-range start.args.b at n sketch start.requires.sketch_value)
