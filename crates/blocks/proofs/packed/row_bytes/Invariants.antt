use Prim.Native.Nat.{ℕ, ◌<◌}
use mathlib.Core.Path.{◌≡◌}
use lib.ListN.{length, get_or}
use Rattle.blocks.specs.Packed.{page_byte, level_at}
use Rattle.blocks.proofs.packed.row_bytes.Given as goal

abbrev pub invariant-loop-k : goal.invariant-loop-k
invariant-loop-k l =
    (length l.bytes ≡ 64) × ((i : ℕ) → i < l.k → get_or l.bytes i 0 ≡ page_byte l.sketches (level_at l.rows i) l.p)
