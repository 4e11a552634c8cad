-- The distance of two signatures: at most the distance of the sketches.
use Rattle.std.specs.Prelude.{ℕ, map}
use Rattle.std.specs.Int.Bits.{bit_xor}
use Rattle.meaning.specs.Lists.{upto, sum}
use Rattle.meaning.specs.Sketch.{group, byte_distance}

-- the sum of the distances of their four bytes
unfoldable pub signature_distance : ℕ → ℕ → ℕ → ℕ
signature_distance b s t = sum (map (λ i. byte_distance b (group 8 (bit_xor s t) i)) (upto 4))
