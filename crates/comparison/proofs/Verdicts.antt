-- The verdict on a distance from the count of some places.
use Rattle.std.specs.Prelude.{Some, None}
use mathlib.Core.Path.{◌≡◌}
use Prim.Native.Nat.{ℕ, ◌<◌, ◌≤◌}
use borrow.Author.Tests.{le-leb, lt-leb}
use Rattle.comparison.specs.Verdicts.{verdict_of}

pub within : (d n radius : ℕ) → n ≡ d → d ≤ radius → Some n ≡ verdict_of d radius
unfolding verdict_of
within d n radius e h = rw (le-leb d radius h, e)

pub beyond : (d radius : ℕ) → radius < d → None ≡ verdict_of d radius
unfolding verdict_of
beyond d radius h = rw (lt-leb d radius h)
