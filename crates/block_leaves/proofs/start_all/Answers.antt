-- `start_all`: the descents of the blocks before j stand at their roots.
use Prim.Native.Nat.{◌+◌, ◌-◌, ◌*◌, ◌≤◌, ◌<◌}
use native.Mathlib.Omega.{arith}
use mathlib.Core.Path.{◌≡◌, ◌∙◌, ap}
use Rattle.layout.specs.Headers.{numbers}
use Rattle.meaning.specs.Sketch.{packed_length}
use Rattle.descent.specs.Cursor.{arrive}
use Rattle.block_leaves.specs.Leaves.{block_size}
use Rattle.block_leaves.proofs.Sizes.{block-most, size-most, size-some}
use Rattle.block_leaves.proofs.Blocks.{started-next}
use Rattle.block_leaves.proofs.start_all.Goals as goal
use Rattle.block_leaves.proofs.start_all.Goals.{After-packed_length-n}

-- how many bytes the block has
count : (c : After-packed_length-n) → c.packed_length-n.result ≡ block_size (numbers c.args.h) c.loop-j.j
count c = c.packed_length-n.ensures ∙ ap (packed_length c.args.h.b) c.block_length.ensures

size : (c : After-packed_length-n) → c.packed_length-n.result ≤ 64
size c = rw (count c) (size-most _ c.args.h.limits _ c.loop-j-test.true)

size-least : (c : After-packed_length-n) → 0 < c.packed_length-n.result
size-least c = rw (count c) (size-some _ c.args.h.limits _ c.loop-j-test.true)

few : (c : After-packed_length-n) → c.loop-j.j < 8
few c = omega (arith, c.loop-j-test.true, c.args.h.limits.blocks-most)

last : (c : After-packed_length-n) → 64 * c.loop-j.j + c.packed_length-n.result - 1
    ≡ 64 * c.loop-j.j + (block_size (numbers c.args.h) c.loop-j.j - 1)
last c = omega (arith, count c, size-least c)

pub overflow_add-last : goal.overflow_add-last
overflow_add-last c = record { fits = omega (arith, size-least c, size c, few c) }

pub overflow_sub-last : goal.overflow_sub-last
overflow_sub-last c = omega (arith, size-least c)

pub overflow_cast-last : goal.overflow_cast-last
overflow_cast-last c =
    let k = (goal.at.overflow_cast-last c).After-packed_length-n in
    record { fits = omega (arith, size k, few k) }

pub loop-j-preserved : goal.loop-j-preserved
loop-j-preserved c =
    let pre = c.requires in
    started-next _ _ _ c.loop-j.invariant c.loop-j-test.true c.args.h.limits.blocks-most _ (c.arrive.ensures ∙ ap (arrive _ _ _ _ _) (last (goal.at.loop-j-preserved c).After-packed_length-n))

pub packed_length-n-requires-clause-n_bound : goal.packed_length-n-requires-clause-n_bound
packed_length-n-requires-clause-n_bound c = let pre = c.requires in rw c.block_length.ensures (block-most _ c.args.h.limits _ c.loop-j-test.true)

pub arrive-requires-clause-x_lt_cap : goal.arrive-requires-clause-x_lt_cap
arrive-requires-clause-x_lt_cap c =
    let k = (goal.at.arrive-requires-clause-x_lt_cap c).After-packed_length-n in
    (omega (arith, c.loop-j-test.true, c.args.h.limits.nodes-least), omega (arith, size k, size-least k, few k, c.told-bytes))
