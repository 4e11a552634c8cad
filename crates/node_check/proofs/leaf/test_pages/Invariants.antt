use Prim.Native.Nat.{◌<◌, ◌≤◌, ◌^◌}
use mathlib.Core.Path.{◌≡◌}
use Rattle.node_check.specs.Leaf.{test_pages}
use Rattle.node_check.proofs.leaf.test_pages.Given as goal

abbrev pub invariant-loop-link : goal.invariant-loop-link
invariant-loop-link l =
    (test_pages l.leaves.pages.now l.leaves.sketches.now l.leaves.block.pages l.leaves.block.base l.leaves.rows l.path l.depth l.link l.left ≡ test_pages l.leaves.pages.now l.leaves.sketches.now l.leaves.block.pages l.leaves.block.base l.leaves.rows l.path l.depth l.first l.budget)
    × (l.link < 2 ^ 32)
    × (l.left ≤ l.budget)

abbrev pub decreases-loop-link : goal.decreases-loop-link
decreases-loop-link l = l.left
