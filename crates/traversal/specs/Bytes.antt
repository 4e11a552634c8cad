-- The packed bytes of block j of a query x.
use Rattle.std.specs.Prelude.{ℕ, ◌≤◌, ◌≡◌, List, length, take}
use Rattle.meaning.specs.Forest.{bytes_of_sketch}
use Rattle.layout.specs.declared.Numbers.{Numbers}
use Rattle.layout.specs.Header.{bare}
use Rattle.traversal.specs.declared.bytes.Packed.{Packed}

-- they stand at the beginning of the array
pub record BlockBytes (h : Numbers) (x : List ℕ) (j : ℕ) (r : Packed) : Type 0 where
  pub long : length r.bytes ≡ 64
  pub few : r.n ≤ 64
  pub same : take r.n r.bytes ≡ bytes_of_sketch (bare h) j x
