-- One pass over two sketches. `GoneOver` holds behind it, and at each place of it for the symbols so far.
use Rattle.std.specs.Prelude.{◌&&◌, List, ◌≡◌, ℕ, ◌^◌, ltb}
use Rattle.meaning.specs.Sketch.{distance, in_range}

-- the bits are below 2^b exactly where all symbols are in range, and the number is the distance
pub record GoneOver (xs ys : List ℕ) (bits differing : ℕ) : Type 0 where
  pub range : (b : ℕ) → ltb bits (2 ^ b) ≡ in_range b xs && in_range b ys
  pub number : differing ≡ distance xs ys
