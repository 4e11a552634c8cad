use Prim.Native.Nat.{◌*◌}
use Rattle.layout.proofs.Parts.{Copied}
use Rattle.add_page.proofs.add.write_row.Given as goal

abbrev pub invariant-loop-i : goal.invariant-loop-i
invariant-loop-i l = Copied l.initial.sketches (l.p * l.m) l.x l.i l.sketches
