-- `test_block` is the test of block j's trie.
use mathlib.Core.Path.{◌∙◌}
use Rattle.layout.specs.Headers.{given_by}
use Rattle.check_tries.proofs.Fits.{readable-block, tested-block}
use Rattle.check_tries.proofs.windows.test_block.Goals as goal

pub invariant_of-scope : goal.invariant_of-scope
invariant_of-scope c = record { readable = readable-block (given_by c.args.h) _ _ _ c.requires.lent _ c.requires.j_lt_q _ c.block_of.ensures _ c.rows_of.ensures _ }

pub returns : goal.returns
returns c = c.test_trie.ensures ∙ tested-block _ _ _ _ _ _ c.block_of.ensures _ c.rows_of.ensures _ _ _ _
