-- How symbols lie in the bytes of a packing.
use Rattle.std.specs.Prelude.{ℕ, ◌-◌, ◌<◌, ◌≡◌}
use Rattle.meaning.specs.Sketch.{per_byte, packed_length, symbols_at}
use Rattle.sketch.specs.Settings.{Bits}
use Rattle.comparison.specs.declared.Shape.{Shape}

-- n symbols of b bits: those of each byte, the bytes, and the symbols of the last
abbrev pub shape_of : ℕ → ℕ → Shape
shape_of b n = record { z = per_byte b; bytes = packed_length b n; last = symbols_at b n (packed_length b n - 1) }

-- the shape of n symbols of some width
pub record Shaped (s : Shape) (n : ℕ) : Type 0 where
  pub b : ℕ
  pub bits : Bits b
  pub some : 0 < n
  pub same : s ≡ shape_of b n
