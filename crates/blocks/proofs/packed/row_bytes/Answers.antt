-- `row_bytes` writes the bytes of a page's row, a level at a time.
use native.Mathlib.Omega.{arith}
use mathlib.Core.Path.{ap, ◌∙◌}
use lib.ListN.{length-set}
use Rattle.layout.specs.Headers.{numbers}
use Rattle.blocks.specs.Tables.{RowTable}
use Rattle.blocks.specs.Packed.{page_byte, level_at}
use Rattle.blocks.proofs.Bytes.{level-path}
use Rattle.blocks.proofs.Tables.{rows_in}
use Rattle.blocks.proofs.Written.{written-more, row_written}
use Rattle.blocks.proofs.packed.row_bytes.Goals as goal
use Rattle.blocks.proofs.packed.row_bytes.Goals.{After-rows_of-rows}

rows : (c : After-rows_of-rows) → RowTable c.args.h.pages c.rows_of-rows.result c.args.sketches.now
rows c =
    rows_in (numbers c.args.h) c.args.h.limits c.args.sketches.now c.requires.h_in_bounds c.args.j c.requires.j_lt_q c.rows_of-rows.result
    c.rows_of-rows.ensures

pub bounds-bytes-k : goal.bounds-bytes-k
bounds-bytes-k c = omega (arith, (rows (goal.at.bounds-bytes-k c).After-rows_of-rows).short)

pub loop-k-preserved : goal.loop-k-preserved
loop-k-preserved c =
    let loop = c in (
      simp length-set loop.loop-k.invariant.0,
      written-more (λ i. page_byte loop.args.sketches.now (level_at loop.rows_of-rows.result i) loop.args.p)
          loop.loop-k.bytes loop.loop-k.k c.page_byte.result (omega (arith, (rows (goal.at.loop-k-preserved loop).After-rows_of-rows).short)) (c.page_byte.ensures ∙ ap (λ v. page_byte loop.args.sketches.now v loop.args.p) c.level_at.ensures)
          loop.loop-k.invariant.1,
    )

pub level_at-requires-clause-k_bound : goal.level_at-requires-clause-k_bound
level_at-requires-clause-k_bound c = let t = c in omega (arith, (rows (goal.at.level_at-requires-clause-k_bound t).After-rows_of-rows).short)

pub level_at-requires-clause-per_bound : goal.level_at-requires-clause-per_bound
level_at-requires-clause-per_bound c = let t = c in (rows (goal.at.level_at-requires-clause-per_bound t).After-rows_of-rows).few

pub level_at-requires-clause-length_bound : goal.level_at-requires-clause-length_bound
level_at-requires-clause-length_bound c = let t = c in (rows (goal.at.level_at-requires-clause-length_bound t).After-rows_of-rows).inside

pub page_byte-requires-clause-sketch_table : goal.page_byte-requires-clause-sketch_table
page_byte-requires-clause-sketch_table c = let t = c in rw t.block_of-block.ensures (level-path _ _ _ _ _ c.level_at.ensures (rows (goal.at.page_byte-requires-clause-sketch_table t).After-rows_of-rows))

pub returns-clause-bytes_after : goal.returns-clause-bytes_after
returns-clause-bytes_after c = let t = c in let e = t in row_written (numbers e.args.h) e.args.h.limits e.args.sketches.now e.requires.h_in_bounds e.args.j e.requires.j_lt_q t.rows_of-rows.result t.rows_of-rows.ensures
    e.args.p e.requires.p_lt_pages c.loop-k.bytes c.loop-k.invariant.0 c.loop-k.k c.loop-k-test.false c.loop-k.invariant.1
