use Prim.Native.Nat.{◌-◌}
use mathlib.Core.Path.{◌≡◌}
use lib.ListN.{length}
use Rattle.layout.specs.Headers.{given_by}
use Rattle.check_tries.specs.Windows.{windows_from, test_windows}
use Rattle.check_tries.proofs.windows.test_windows.Given as goal

abbrev pub invariant-loop-k : goal.invariant-loop-k
invariant-loop-k l =
    (windows_from (given_by l.h) l.view.nodes.now l.view.pages.now l.view.sketches.now (length l.initial.map) l.left l.live (8 - l.k) l.k l.map ≡ test_windows (given_by l.h) l.view.nodes.now l.view.pages.now l.view.sketches.now (length l.initial.map) l.left l.live l.initial.map)
    × (length l.map ≡ length l.initial.map)
