use Prim.Native.Nat.{◌-◌}
use mathlib.Core.Path.{◌≡◌}
use lib.ListN.{length}
use Rattle.layout.specs.Headers.{given_by}
use Rattle.check_tries.specs.Windows.{blocks_from, block_given}
use Rattle.check_tries.proofs.windows.test_blocks.Given as goal

abbrev pub invariant-loop-j : goal.invariant-loop-j
invariant-loop-j l =
    (blocks_from (block_given (given_by l.h) l.view.nodes.now l.view.pages.now l.view.sketches.now l.window) l.live (l.h.q - l.j) l.j l.map l.left
    ≡ blocks_from (block_given (given_by l.h) l.view.nodes.now l.view.pages.now l.view.sketches.now l.window) l.live l.h.q 0 l.initial.map l.budget)
    × (length l.map ≡ length l.initial.map)
