-- `pack`: the bytes of the block stand at the beginning of the array.
use native.Mathlib.Omega.{arith}
use mathlib.Core.Path.{◌≡◌, ap, ◌∙◌}
use lib.ListN.{take}
use borrow.Author.Rules.{rules}
use Rattle.layout.specs.Headers.{numbers}
use Rattle.meaning.specs.Forest.{block_bytes}
use Rattle.meaning.specs.Sketch.{packed_length}
use Rattle.block_leaves.specs.Leaves.{block_size}
use Rattle.block_leaves.proofs.Sizes.{block-most, size-most}
use Rattle.traversal.proofs.bytes.pack.Goals as goal
use Rattle.traversal.proofs.bytes.pack.Goals.{After-packed_length-n}

count : (c : After-packed_length-n) → c.packed_length-n.result ≡ block_size (numbers c.args.h) c.args.j
count c = c.packed_length-n.ensures ∙ ap (packed_length c.args.h.b) c.block_length.ensures

pub returns : goal.returns
unfolding block_bytes
returns c =
    let n = count (goal.at.returns c).After-packed_length-n in
    record {
      long = search rules;
      few = omega (arith, n, size-most _ c.args.h.limits _ c.requires.j_lt_q);
      same = ap (λ k. take k c.block_bytes-bytes.result) n ∙ c.block_bytes-bytes.ensures;
    }

pub packed_length-n-requires-clause-n_bound : goal.packed_length-n-requires-clause-n_bound
packed_length-n-requires-clause-n_bound c = rw c.block_length.ensures (block-most _ c.args.h.limits _ c.requires.j_lt_q)
