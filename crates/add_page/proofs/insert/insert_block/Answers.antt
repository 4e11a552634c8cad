-- The function `insert_block` is the definition `insert_block`.
use native.Mathlib.Omega.{arith}
use mathlib.Core.Path.{sym, ◌∙◌}
use lib.Seq.{length-take-le}
use Rattle.blocks.specs.Tables.{InTables}
use Rattle.blocks.proofs.Tables.{in_tables}
use Rattle.add_page.proofs.Blocks.{insert-one}
use Rattle.add_page.proofs.insert.insert_block.Goals as goal
use Rattle.add_page.proofs.insert.insert_block.Goals.{After-rows_of}

tables : (c : After-rows_of) →
    InTables c.args.nodes.now c.args.pages.now c.args.sketches.now c.args.j
    c.block_of.result c.rows_of.result
tables c =
    in_tables _ _ _ _ c.requires.lent _ c.requires.j_lt_q _ c.block_of.ensures _ c.rows_of.ensures

pub invariant_of-growth : goal.invariant_of-growth
invariant_of-growth c =
    let rows = (tables (goal.at.invariant_of-growth c).After-rows_of).rows in
    record { row_table = rows; bytes_in_bounds = omega (arith, rows.short, c.told-thresholds) }

pub slice_bounds-bytes-end : goal.slice_bounds-bytes-end
slice_bounds-bytes-end c = omega (arith, (tables (goal.at.slice_bounds-bytes-end c).After-rows_of).rows.short)

pub slice_bounds-insert_page-end : goal.slice_bounds-insert_page-end
slice_bounds-insert_page-end c =
    sym (length-take-le c.rows_of.result.bytes c.block_bytes-bytes.result (omega (arith, (tables (goal.at.slice_bounds-insert_page-end c).After-rows_of).rows.short)))

pub returns : goal.returns
returns c =
    c.insert_page.ensures
    ∙ insert-one _ _ _ _ _ _ _ _ c.block_of.ensures _ c.rows_of.ensures _ c.block_bytes-bytes.ensures _ _

pub insert_page-requires-clause-node_table : goal.insert_page-requires-clause-node_table
insert_page-requires-clause-node_table c = (tables (goal.at.insert_page-requires-clause-node_table c).After-rows_of).nodes

pub insert_page-requires-clause-page_table : goal.insert_page-requires-clause-page_table
insert_page-requires-clause-page_table c = (tables (goal.at.insert_page-requires-clause-page_table c).After-rows_of).pages
