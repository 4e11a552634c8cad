use Prim.Native.Nat.{◌-◌, ◌<◌, ◌≤◌}
use mathlib.Core.Bool.{true, not}
use lib.Dec.{eqb}
use mathlib.Core.Path.{◌≡◌}
use lib.ListN.{length}
use Rattle.layout.specs.Nodes.{node_words}
use Rattle.trie.specs.Descend.{descend, descend_to, passed, passed_at, noted, Noted}
use Rattle.trie.proofs.path.walk.Given as goal

abbrev pub invariant-loop-s : goal.invariant-loop-s
invariant-loop-s g l =
    (descend l.nodes l.cap l.bytes l.n l.slot l.level (length l.bytes - l.level) ≡ descend_to l.nodes l.cap l.root l.bytes) × (l.n < l.cap) × (l.slot < node_words l.cap) × (l.level ≤ length l.bytes)
    × (passed_at l.nodes l.cap l.root l.bytes l.level ≡ passed l.n l.slot) × (not (eqb g.row.NOTES 0) ≡ true → Noted (noted l.path) (passed_at l.nodes l.cap l.root l.bytes) l.level)
    × (length l.path ≡ length l.initial.path)

abbrev pub decreases-loop-s : goal.decreases-loop-s
decreases-loop-s g l = length l.bytes - l.level
