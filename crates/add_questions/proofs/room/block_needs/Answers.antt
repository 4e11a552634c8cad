-- The function `block_needs` is the definition `block_needs`.
use native.Mathlib.Omega.{arith}
use mathlib.Core.Path.{sym, ◌∙◌}
use lib.Seq.{length-take-le}
use Rattle.blocks.specs.Tables.{InTables}
use Rattle.blocks.proofs.Tables.{in_tables}
use Rattle.add_questions.proofs.Blocks.{needs-block}
use Rattle.add_questions.proofs.room.block_needs.Goals as goal
use Rattle.add_questions.proofs.room.block_needs.Goals.{After-rows_of}

-- the block's tables
tables : (c : After-rows_of) → let v = c.args.view in
    InTables v.nodes.now v.pages.now v.sketches.now c.args.j
    c.block_of.result c.rows_of.result
tables c =
    in_tables _ _ _ _ c.requires.lent _ c.requires.j_lt_q _ c.block_of.ensures _ c.rows_of.ensures

pub invariant_of-growth : goal.invariant_of-growth
invariant_of-growth c =
    let rows = (tables (goal.at.invariant_of-growth c).After-rows_of).rows in
    record { row_table = rows; bytes_in_bounds = omega (arith, rows.short, c.told-thresholds) }

pub slice_bounds-bytes-end : goal.slice_bounds-bytes-end
slice_bounds-bytes-end c = omega (arith, (tables (goal.at.slice_bounds-bytes-end c).After-rows_of).rows.short)

pub slice_bounds-nodes_needed-end : goal.slice_bounds-nodes_needed-end
slice_bounds-nodes_needed-end c =
    sym (length-take-le c.rows_of.result.bytes c.block_bytes-bytes.result (omega (arith, (tables (goal.at.slice_bounds-nodes_needed-end c).After-rows_of).rows.short)))

pub returns : goal.returns
returns c =
    c.nodes_needed.ensures
    ∙ needs-block _ _ _ _ _ _ _ _ c.block_of.ensures _ c.rows_of.ensures _ c.block_bytes-bytes.ensures

pub nodes_needed-requires-clause-node_table : goal.nodes_needed-requires-clause-node_table
nodes_needed-requires-clause-node_table c = (tables (goal.at.nodes_needed-requires-clause-node_table c).After-rows_of).nodes

pub nodes_needed-requires-clause-page_table : goal.nodes_needed-requires-clause-page_table
nodes_needed-requires-clause-page_table c = (tables (goal.at.nodes_needed-requires-clause-page_table c).After-rows_of).pages

pub nodes_needed-requires-clause-bytes_len : goal.nodes_needed-requires-clause-bytes_len
nodes_needed-requires-clause-bytes_len c = length-take-le c.rows_of.result.bytes c.block_bytes-bytes.result (omega (arith, (tables (goal.at.nodes_needed-requires-clause-bytes_len c).After-rows_of).rows.short))
