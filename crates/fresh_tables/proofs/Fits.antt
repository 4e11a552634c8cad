-- Within the limits of 4 the length of each table is a number of 32 bits.
use Prim.Native.Nat.{◌+◌, ◌^◌, ◌≤◌, ◌<◌}
use native.Mathlib.Omega.{arith}
use native.Mathlib.Nat.{mul-le-mul, lt_of_le_of_lt}
use lib.Dec.{lit<}
use Rattle.layout.specs.declared.Numbers.{Numbers}
use Rattle.layout.specs.Header.{bare}
use Rattle.layout.specs.Limits.{HeaderLimits}
use Rattle.layout.specs.Lengths.{nodes_length, pages_length, sketches_length, working_length}
use Rattle.layout.proofs.Sizes.{map-most, summary-most}

module _ (h : Numbers) (l : HeaderLimits h) where
  pub nodes-fit : nodes_length (bare h) < 2 ^ 32
  unfolding nodes_length
  nodes-fit = omega arith

  pub pages-fit : pages_length (bare h) < 2 ^ 32
  unfolding pages_length
  pages-fit =
      let width : 2 + h.q ≤ 10 = omega (arith, l.blocks-most) in
      lt_of_le_of_lt (mul-le-mul width l.pages-most) (lit< tt)

  pub sketches-fit : sketches_length (bare h) < 2 ^ 32
  unfolding sketches_length
  sketches-fit = lt_of_le_of_lt (mul-le-mul l.pages-most l.symbols-most) (lit< tt)

  pub working-fit : working_length (bare h) < 2 ^ 32
  unfolding working_length
  working-fit = omega (arith, map-most (bare h) l, summary-most (bare h) l)
