-- A block lies inside its sketch.
use mathlib.Core.Bool.{Bool, true, false, cond}
use mathlib.Core.Path.{◌≡◌, refl}
use Prim.Native.Nat.{ℕ, ◌+◌, ◌*◌, ◌/◌, ◌%◌, min, ◌<◌, ◌≤◌}
use native.Mathlib.Nat.{div-add-mod', mul-le-mul_right}
use native.Mathlib.Omega.{arith}
use lib.Dec.{ltb}
use borrow.Author.Tests.{ltb-true, ltb-false}
use Rattle.meaning.specs.Sketch.{block_length, block_start}

module _ (m q j : ℕ) (h : j < q) where
  pub whole : j * (m / q) + m / q + m % q ≤ m
  whole = omega (arith, div-add-mod' m q, mul-le-mul_right (m / q) h)

  pub block-ends : block_start m q j + block_length m q j ≤ m
  unfolding block_start block_length
  block-ends = go (ltb j (m % q)) refl
    where
      go : (t : Bool) → ltb j (m % q) ≡ t → j * (m / q) + min j (m % q) + (m / q + cond t 1 0) ≤ m
      go true e = omega (arith, whole, ltb-true j (m % q) e)
      go false e = omega (arith, whole, ltb-false j (m % q) e)
