use mathlib.Core.List.{map}
use mathlib.Core.Path.{◌≡◌}
use lib.ListN.{length, take}
use Rattle.meaning.specs.Lists.{onto, upto}
use Rattle.sketch.proofs.Packed.{byte_of}
use Rattle.sketch.proofs.packing.pack_into.Given as goal

abbrev pub invariant-loop-j : goal.invariant-loop-j
invariant-loop-j l =
    (length l.out ≡ length l.initial.out)
    × (l.out ≡ onto (map (byte_of l.b (take l.n l.xs)) (upto l.j)) l.initial.out)
