use mathlib.Core.Path.{◌≡◌}
use Prim.Native.Nat.{◌-◌}
use Rattle.meaning.specs.Lists.{all, from}
use Rattle.node_check.specs.Leaf.{on_path}
use Rattle.node_check.proofs.LeafSteps.{match_at}
use Rattle.node_check.proofs.leaf.is_on_path.Given as goal

abbrev pub invariant-loop-k : goal.invariant-loop-k
invariant-loop-k l = all (match_at l.leaves.sketches.now l.leaves.rows l.path l.p) (from l.k (l.depth - l.k)) ≡ on_path l.leaves.sketches.now l.leaves.rows l.path l.depth l.p
