-- `block_bytes` packs block j.
use native.Mathlib.Omega.{arith}
use mathlib.Core.Path.{ap, ◌∙◌}
use lib.ListN.{take}
use Rattle.layout.specs.Headers.{given_by}
use Rattle.meaning.specs.Forest.{block_bytes, bytes_of_sketch}
use Rattle.blocks.proofs.BlockBytes.{bytes_most, bytes-first}
use Rattle.blocks.proofs.packed.block_bytes.Goals as goal

pub returns : goal.returns
unfolding bytes_of_sketch
returns c =
    let entry = c in
    let s = given_by entry.args.h in
    ap (take (block_bytes s entry.args.j)) c.pack_block.ensures
    ∙ bytes-first s entry.args.j entry.requires.j_lt_q entry.args.sketch.now entry.requires.fits.count _

pub pack_block-requires-clause-j_in_bounds : goal.pack_block-requires-clause-j_in_bounds
unfolding block_bytes
pack_block-requires-clause-j_in_bounds c = let entry = c in let most = bytes_most (given_by entry.args.h) entry.args.j entry.requires.j_lt_q in omega (arith, most)
