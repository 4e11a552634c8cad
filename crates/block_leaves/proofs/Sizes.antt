-- How many packed bytes a block has.
use Prim.Native.Nat.{ℕ, ◌≤◌, ◌<◌}
use native.Mathlib.Omega.{arith}
use mathlib.Core.Path.{◌≡◌}
use mathlib.Core.List.{List}
use lib.ListN.{length}
use Rattle.meaning.specs.Sketch.{block_length}
use Rattle.meaning.specs.Forest.{bytes_of_sketch}
use Rattle.layout.specs.declared.Numbers.{Numbers}
use Rattle.layout.specs.Header.{bare}
use Rattle.layout.specs.Limits.{HeaderLimits}
use Rattle.sketch_laws.proofs.Packing.{per-byte-pos, byte-there, packed-most}
use Rattle.sketch_laws.proofs.Blocks.{block-end, block-pos, block-packed}
use Rattle.block_leaves.specs.Leaves.{block_size}

pub bytes-length : (h : Numbers) (x : List ℕ) → length x ≡ h.m → (j : ℕ) → j < h.q → length (bytes_of_sketch (bare h) j x) ≡ block_size h j
unfolding bytes_of_sketch
bytes-length h x e j l = block-packed h.m h.q h.b j x l e

module _ (h : Numbers) (limits : HeaderLimits h) (j : ℕ) (l : j < h.q) where
  pub block-most : block_length h.m h.q j ≤ 64
  block-most = omega (arith, block-end h.m h.q j l, limits)

  pub size-most : block_size h j ≤ 64
  size-most = omega (arith, packed-most h.b (block_length h.m h.q j), block-most)

  pub size-some : 0 < block_size h j
  size-some =
      let some : 0 < block_length h.m h.q j = block-pos h.m h.q j limits.blocks-least limits.blocks-fit in
      (byte-there h.b (per-byte-pos h.b limits.bits-least limits.bits_most) (block_length h.m h.q j) 0).1 (omega arith)
