use mathlib.Core.Path.{◌≡◌}
use Prim.Native.Nat.{◌-◌}
use Rattle.meaning.specs.Lists.{all, from}
use Rattle.meaning.specs.Sketch.{packed_length, all_packable}
use Rattle.sketch.proofs.Packed.{packable_at}
use Rattle.sketch.proofs.packing.all_packable.Given as goal

abbrev pub invariant-loop-k : goal.invariant-loop-k
invariant-loop-k l = all (packable_at l.b l.n l.bytes) (from l.k (packed_length l.b l.n - l.k)) ≡ all_packable l.b l.n l.bytes
