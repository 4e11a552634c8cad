use lib.ListN.{take}
use Rattle.sketch.specs.Pass.{GoneOver}
use Rattle.sketch.proofs.symbols.go_over.Given as goal

abbrev pub invariant-loop-i : goal.invariant-loop-i
invariant-loop-i l = GoneOver (take l.i l.xs) (take l.i l.ys) l.bits l.d
