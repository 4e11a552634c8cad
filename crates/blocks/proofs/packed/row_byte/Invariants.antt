use Prim.Native.Nat.{◌+◌, ◌-◌}
use mathlib.Core.Path.{◌≡◌}
use Rattle.blocks.specs.Packed.{row_byte}
use Rattle.blocks.proofs.packed.row_byte.Given as goal

abbrev pub invariant-loop-i : goal.invariant-loop-i
invariant-loop-i l = l.v ≡ row_byte l.b l.sketches (l.at + l.i) (l.count - l.i)
