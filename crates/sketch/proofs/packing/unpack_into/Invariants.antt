use mathlib.Core.List.{map}
use mathlib.Core.Path.{◌≡◌}
use Prim.Native.Nat.{◌+◌, ◌*◌, ◌<◌}
use lib.ListN.{length}
use Rattle.meaning.specs.Lists.{onto, upto}
use Rattle.sketch.proofs.Packed.{symbol_of}
use Rattle.sketch.proofs.packing.unpack_into.Given as goal

abbrev pub invariant-loop-i : goal.invariant-loop-i
invariant-loop-i l =
    (l.i ≡ l.k * l.z + l.g) × (l.g < l.z) × (length l.out ≡ length l.initial.out)
    × (l.out ≡ onto (map (symbol_of l.b l.bytes) (upto l.i)) l.initial.out)
