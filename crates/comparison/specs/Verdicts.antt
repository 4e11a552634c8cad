-- What a comparison with a radius says of a distance.
use Rattle.std.specs.Prelude.{cond, ℕ, leb, Option, Some, None}

unfoldable pub verdict_of : ℕ → ℕ → Option ℕ
verdict_of d radius = cond (leb d radius) (Some d) None
