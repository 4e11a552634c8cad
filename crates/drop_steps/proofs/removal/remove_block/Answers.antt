-- The function `remove_block` is the definition `remove_block`.
use native.Mathlib.Omega.{arith}
use Prim.Native.Nat.{ℕ}
use mathlib.Core.Path.{◌≡◌, sym, ◌∙◌}
use mathlib.Core.List.{List}
use lib.ListN.{length, take}
use lib.Seq.{length-take-le}
use Rattle.blocks.specs.Tables.{InTables}
use Rattle.blocks.proofs.Tables.{in_tables}
use Rattle.drop_steps.proofs.Blocks.{remove-one}
use Rattle.drop_steps.proofs.removal.remove_block.Goals as goal
use Rattle.drop_steps.proofs.removal.remove_block.Goals.{After-rows_of-rows}

tables : (c : After-rows_of-rows) →
    InTables c.args.nodes.now c.args.pages.now c.args.sketches.now c.args.j c.block_of-block.result c.rows_of-rows.result
tables c =
    in_tables _ _ _ _ c.requires.lent _ c.requires.j_lt_q _ c.block_of-block.ensures _ c.rows_of-rows.ensures

-- as many bytes as the block has
short : (c : After-rows_of-rows) (ys : List ℕ) → length ys ≡ 64 → length (take c.rows_of-rows.result.bytes ys) ≡ c.rows_of-rows.result.bytes
short c ys e = length-take-le c.rows_of-rows.result.bytes ys (omega (arith, (tables c).rows.short))

pub slice_bounds-bytes-end : goal.slice_bounds-bytes-end
slice_bounds-bytes-end c = omega (arith, (tables (goal.at.slice_bounds-bytes-end c).After-rows_of-rows).rows.short)

pub slice_bounds-remove_page-end : goal.slice_bounds-remove_page-end
slice_bounds-remove_page-end c = let r = c in sym (short (goal.at.slice_bounds-remove_page-end r).After-rows_of-rows _ r.row_bytes.ensures.long)

pub remove_page-requires-clause-node_table : goal.remove_page-requires-clause-node_table
remove_page-requires-clause-node_table c = let r = c in let t = tables (goal.at.remove_page-requires-clause-node_table r).After-rows_of-rows in t.nodes

pub remove_page-requires-clause-page_table : goal.remove_page-requires-clause-page_table
remove_page-requires-clause-page_table c = let r = c in let t = tables (goal.at.remove_page-requires-clause-page_table r).After-rows_of-rows in t.pages

pub returns : goal.returns
returns c = let r = c in let n = r in r.remove_page.ensures
    ∙ remove-one _ _ _ _ _ _ _ _ n.block_of-block.ensures _ n.rows_of-rows.ensures _ n.row_bytes.ensures.bytes_after
