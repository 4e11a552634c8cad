use mathlib.Core.Path.{◌≡◌}
use Prim.Native.Nat.{◌≤◌}
use lib.ListN.{length, drop}
use Rattle.meaning.specs.Sketch.{packed_length, pack}
use Rattle.blocks.specs.RowBytes.{reduced}
use Rattle.layout.specs.Signature.{folded}
use Rattle.signature.proofs.signature_of.Given as goal

abbrev pub invariant-loop-k : goal.invariant-loop-k
invariant-loop-k l =
    (l.k ≤ packed_length l.b (length l.row)) × (l.s ≡ folded (drop l.k (pack l.b (reduced l.b l.row))))
