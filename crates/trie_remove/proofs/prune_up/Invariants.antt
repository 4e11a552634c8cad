-- The function `prune_up` is the definition `prune_up`: each turn takes one step of the definition.
use Prim.Native.Nat.{◌<◌, ◌≤◌}
use mathlib.Core.Path.{◌≡◌}
use lib.ListN.{length}
use Rattle.layout.specs.Nodes.{node_words}
use Rattle.trie.specs.Descend.{noted}
use Rattle.trie_remove.specs.Prune.{prune_up, InTable}
use Rattle.trie_remove.proofs.prune_up.Given as goal

abbrev pub invariant-loop-level : goal.invariant-loop-level
invariant-loop-level l =
    (prune_up l.nodes l.cap (noted l.path) l.level l.n l.slot l.link ≡ prune_up l.initial.nodes l.cap (noted l.path) l.fn.leaf.level l.fn.leaf.node l.fn.leaf.slot l.free)
    × (l.n < l.cap) × (l.slot < node_words l.cap) × (l.level ≤ 64) × InTable l.cap (noted l.path) l.level × (length l.nodes ≡ length l.initial.nodes)
