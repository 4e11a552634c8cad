-- Measuring two sketches: examples of its questions, in their order, and of what it gives (document 02, F-4).
use Prim.Native.Nat.{ℕ}
use mathlib.Core.Path.{◌≡◌, refl}
use mathlib.Core.List.{List, [], ◌∷◌}
use Rattle.meaning.specs.Lists.{all}
use Rattle.meaning.specs.Refusal.{first_no}
use Rattle.meaning.specs.Sketch.{distance, in_range}
use Rattle.meaning.specs.SketchCalls.{sketch_limits, measure_number, measure_value}

-- four symbols of two bits
abbrev one : List ℕ
one = 0 ∷ 1 ∷ 2 ∷ 3 ∷ []

-- one that differs in the last two places
abbrev other : List ℕ
other = 0 ∷ 1 ∷ 3 ∷ 2 ∷ []

-- a symbol of three bits, at the last place
abbrev high : List ℕ
high = 0 ∷ 1 ∷ 2 ∷ 4 ∷ []

-- a symbol too few, and the first of three bits
abbrev short : List ℕ
short = 4 ∷ 1 ∷ 2 ∷ []

pub record Measuring : Type 0 where
  pub accepted : measure_number 2 4 one other ≡ 0
  pub distance-given : measure_value 2 4 one other ≡ 2
  -- out of range in either sketch
  pub first-high : measure_number 2 4 high one ≡ 11
  pub second-high : measure_number 2 4 one high ≡ 11
  pub nothing-given : measure_value 2 4 one high ≡ 0
  -- 10 of both comes ahead of 11 of either, and 4 ahead of both
  pub first_short : measure_number 2 4 short high ≡ 10
  pub second_short : measure_number 2 4 high short ≡ 10
  pub nine-bits : measure_number 9 4 high short ≡ 4
  pub none-given : measure_value 2 4 high short ≡ 0

pub measuring : Measuring
unfolding measure_number measure_value sketch_limits first_no all in_range distance
measuring = record {
  accepted = refl;
  distance-given = refl;
  first-high = refl;
  second-high = refl;
  nothing-given = refl;
  first_short = refl;
  second_short = refl;
  nine-bits = refl;
  none-given = refl;
}
