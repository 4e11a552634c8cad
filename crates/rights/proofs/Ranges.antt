-- A change's numbers, from the test of both.
use Prim.Native.Nat.{ℕ, ◌<◌}
use mathlib.Core.Path.{◌≡◌}
use mathlib.Core.Bool.{true, ◌&&◌}
use lib.Dec.{ltb}
use borrow.Author.Tests.{ltb-true}
use Rattle.meaning.proofs.Lists.{and_first, and_second}

pub below : (a A b B : ℕ) → ltb a A && ltb b B ≡ true → (a < A) × (b < B)
below a A b B e = (ltb-true a A (and_first (ltb a A) (ltb b B) e), ltb-true b B (and_second (ltb a A) (ltb b B) e))
