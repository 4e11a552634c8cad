use mathlib.Core.Path.{◌≡◌}
use lib.ListN.{length}
use Prim.Native.Nat.{◌-◌}
use Rattle.layout.specs.Nodes.{steps_for}
use Rattle.node_check.specs.Scope.{within}
use Rattle.trie_check.specs.Trie.{test_below}
use Rattle.trie_check.proofs.Stack.{Safe}
use Rattle.trie_check.proofs.Turns.{run_at}
use Rattle.trie_check.proofs.test.test_below.Given as goal

abbrev pub invariant-loop-turn : goal.invariant-loop-turn
invariant-loop-turn l =
    (run_at (within l.scope) (steps_for l.scope.block.nodes - l._turn) l.map l.path l.place l.stack ≡ test_below (within l.scope) l.root l.initial.map l.left l.live)
    × (length l.map ≡ length l.initial.map)
    × Safe l.scope.block.nodes l.scope.rows.bytes l.place.frame l.stack l.place.depth
