use mathlib.Core.Bool.{◌&&◌}
use mathlib.Core.Path.{◌≡◌}
use Prim.Native.Nat.{◌^◌, ◌<◌}
use lib.Dec.{ltb}
use lib.ListN.{drop}
use Rattle.meaning.specs.Sketch.{in_range}
use Rattle.sketch.proofs.symbols.in_range.Given as goal

abbrev pub invariant-loop-x : goal.invariant-loop-x
invariant-loop-x l = (l.bits < 256) × (ltb l.bits (2 ^ l.b) && in_range l.b (drop l.x-index l.xs) ≡ in_range l.b l.xs)
