use Prim.Native.Nat.{◌+◌, ◌^◌, ◌≤◌, ◌<◌}
use mathlib.Core.Path.{◌≡◌}
use Rattle.check_tables.specs.Free.{test_free}
use Rattle.check_tables.proofs.FreeSteps.{turns}
use Rattle.check_tables.proofs.free.test_free.Given as goal

abbrev pub invariant-loop-left : goal.invariant-loop-left
invariant-loop-left l = (turns l.nodes l.cap l.link l.left ≡ test_free l.nodes l.cap l.first) × (l.left ≤ l.cap + 1) × (l.link < 2 ^ 32)
