use Prim.Native.Nat.{◌+◌, ◌-◌}
use mathlib.Core.Path.{◌≡◌}
use lib.ListN.{length}
use Rattle.trie_insert.specs.Split.{split_from}
use Rattle.trie_insert.proofs.split.split_pages.Given as goal

abbrev pub invariant-loop : goal.invariant-loop
invariant-loop l =
    (split_from l.sketches l.level l.block.nodes l.block.pages l.block.base l.n l.nodes l.pages l.link l.next_free (l.block.pages + 1 - l.counter) ≡
    split_from l.sketches l.level l.block.nodes l.block.pages l.block.base l.n l.initial.nodes l.initial.pages l.first l.free (l.block.pages + 1)) ×
    (length l.nodes ≡ length l.initial.nodes) × (length l.pages ≡ length l.initial.pages)
