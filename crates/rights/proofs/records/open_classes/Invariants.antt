use mathlib.Core.Path.{◌≡◌}
use Prim.Native.Nat.{◌^◌, ◌<◌}
use Rattle.words.specs.Bits.{bits_of}
use Rattle.rights.specs.Open.{with_groups, open_classes}
use Rattle.rights.proofs.records.open_classes.Given as goal

abbrev pub invariant-loop-groups : goal.invariant-loop-groups
invariant-loop-groups l =
    (l.groups < 2 ^ 32) × (with_groups l.ws (record { low = l.low; high = l.high }) (bits_of l.groups) ≡ open_classes l.ws l.reader)

abbrev pub decreases-loop-groups : goal.decreases-loop-groups
decreases-loop-groups l = l.groups
