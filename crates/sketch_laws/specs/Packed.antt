-- What the laws of packings speak of beside crate meaning's definitions.
use Rattle.std.specs.Prelude.{ℕ, ◌+◌, ◌*◌, not, List, [], ◌∷◌, eqb, take, drop}
use Rattle.std.specs.Int.Bits.{bit_xor}
use Rattle.meaning.specs.Lists.{count, upto}
use Rattle.meaning.specs.Sketch.{per_byte, group, byte_distance}

-- the symbols that byte k of a packing has
abbrev pub symbols_of : ℕ → ℕ → List ℕ → List ℕ
symbols_of b k xs = take (per_byte b) (drop (k * per_byte b) xs)

-- how many of the i lowest groups of v are not zero; the distance of a byte counts all z
unfoldable pub group_distance : ℕ → ℕ → ℕ → ℕ
group_distance b v i = count (λ j. not (eqb (group b v j) 0)) (upto i)

-- the sum of f over the pairs that stand at equal places of two lists
unfoldable pub sum_pairs : (ℕ → ℕ → ℕ) → List ℕ → List ℕ → ℕ
sum_pairs f [] ys = 0
sum_pairs f (x ∷ xs) [] = 0
sum_pairs f (x ∷ xs) (y ∷ ys) = f x y + sum_pairs f xs ys

-- the distance of two packings: the sum of the distances of their bytes
unfoldable pub packed_distance : ℕ → List ℕ → List ℕ → ℕ
packed_distance b vs ws = sum_pairs (λ v w. byte_distance b (bit_xor v w)) vs ws
