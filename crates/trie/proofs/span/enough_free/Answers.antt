-- `enough_free` is `span_from`: each turn takes one step of the definition.
use native.Mathlib.Omega.{arith}
use Rattle.trie.proofs.Steps.{span-on}
use Rattle.trie.proofs.span.enough_free.Goals as goal

pub loop-preserved : goal.loop-preserved
loop-preserved c = search (span-on, arith)
