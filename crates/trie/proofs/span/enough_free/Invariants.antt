use Prim.Native.Nat.{◌-◌}
use mathlib.Core.Path.{◌≡◌}
use Rattle.trie.specs.Model.{span_from}
use Rattle.trie.proofs.span.enough_free.Given as goal

abbrev pub invariant-loop : goal.invariant-loop
invariant-loop l = span_from l.nodes l.cap l.link (l.need - l.counter) ≡ span_from l.nodes l.cap l.first l.need
