use Prim.Native.Nat.{◌-◌}
use mathlib.Core.Path.{◌≡◌}
use lib.ListN.{length}
use Rattle.trie_remove.specs.Take.{take_from}
use Rattle.trie_remove.proofs.take_behind.Given as goal

abbrev pub invariant-loop : goal.invariant-loop
invariant-loop l =
    (take_from l.pages l.pcap l.base l.p l.first l.link (l.pcap - l.counter) ≡ take_from l.initial.pages l.pcap l.base l.p l.first l.first l.pcap) × (length l.pages ≡ length l.initial.pages)
