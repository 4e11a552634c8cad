use mathlib.Core.Path.{◌≡◌}
use lib.ListN.{drop}
use Rattle.meaning.specs.Sketch.{pack_byte}
use Rattle.sketch.proofs.packing.pack_byte.Given as goal

abbrev pub invariant-loop-i : goal.invariant-loop-i
invariant-loop-i l = l.v ≡ pack_byte l.b (drop l.i l.xs)
