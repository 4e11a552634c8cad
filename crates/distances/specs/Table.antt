-- The fixed table of byte distances: 8 rows of 256 numbers, row b at (b - 1) × 256.
use Rattle.std.specs.Prelude.{List, map, ℕ, ◌+◌, ◌/◌, ◌%◌}
use Rattle.meaning.specs.Lists.{upto}
use Rattle.meaning.specs.Sketch.{byte_distance}

unfoldable pub distance_table : List ℕ
distance_table = map (λ k. byte_distance (k / 256 + 1) (k % 256)) (upto 2048)
