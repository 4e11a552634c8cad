-- How far apart two signatures can be: four bytes, of z groups each.
use Prim.Native.Nat.{ℕ, ◌*◌, ◌≤◌}
use native.Mathlib.Omega.{arith}
use mathlib.Core.Bool.{not}
use lib.Dec.{eqb}
use lib.Bits.{bit_xor}
use Rattle.meaning.specs.Lists.{from, upto, sum}
use Rattle.meaning.specs.Sketch.{per_byte, group, byte_distance}
use Rattle.meaning.proofs.Lists.{count-upto}
use Rattle.signature.specs.Distance.{signature_distance}

byte-most : (b v : ℕ) → byte_distance b v ≤ per_byte b
unfolding byte_distance
byte-most b v = omega (arith, count-upto (λ (i : ℕ). not (eqb (group b v i) 0)) (per_byte b))

pub signature-most : (b s t : ℕ) → signature_distance b s t ≤ 4 * per_byte b
unfolding signature_distance sum upto from
signature-most b s t =
    omega (
      arith,
      byte-most b (group 8 (bit_xor s t) 0),
      byte-most b (group 8 (bit_xor s t) 1),
      byte-most b (group 8 (bit_xor s t) 2),
      byte-most b (group 8 (bit_xor s t) 3),
    )
