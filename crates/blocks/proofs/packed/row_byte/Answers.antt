-- The function `row_byte` is the definition `row_byte`: at each turn v is the byte of the symbols from place i on.
use Rattle.blocks.proofs.Bytes.{row-turn, row_fits, row_last}
use Rattle.blocks.proofs.packed.row_byte.Goals as goal

pub overflow_add-v-in-loop-i : goal.overflow_add-v-in-loop-i
overflow_add-v-in-loop-i c = search row_fits

pub loop-i-preserved : goal.loop-i-preserved
loop-i-preserved c = search row-turn

pub overflow_cast-result : goal.overflow_cast-result
overflow_cast-result c = record { fits = search row_last }
