-- `take_behind` is `take_from`: each turn takes one step of the definition.
use native.Mathlib.Omega.{arith}
use Rattle.trie_remove.proofs.Steps.{take-further}
use Rattle.trie_remove.proofs.take_behind.Goals as goal

pub loop-preserved : goal.loop-preserved
loop-preserved c = (search (take-further, arith), omega arith)
