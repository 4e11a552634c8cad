-- The signature of a sketch: its packed bytes folded to four by exclusive or, as one word.
use Rattle.std.specs.Prelude.{ℕ, zero, suc, List, [], ◌∷◌, map}
use Rattle.std.specs.Int.Bits.{bit_xor}
use Rattle.meaning.specs.Lists.{upto}
use Rattle.meaning.specs.Sketch.{pack_byte, pack}

-- the exclusive or of the bytes i, i + 4, i + 8, ..
unfoldable pub folded_byte : ℕ → List ℕ → ℕ
folded_byte i [] = 0
folded_byte zero (v ∷ vs) = bit_xor v (folded_byte 3 vs)
folded_byte (suc i) (v ∷ vs) = folded_byte i vs

-- bytes folded to four, as one word: s0 + 256 × s1 + 65536 × s2 + 16777216 × s3
unfoldable pub folded : List ℕ → ℕ
folded vs = pack_byte 8 (map (λ i. folded_byte i vs) (upto 4))

-- the packed bytes of a sketch, folded
unfoldable pub signature : ℕ → List ℕ → ℕ
signature b xs = folded (pack b xs)
