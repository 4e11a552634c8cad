-- z symbols of b bits fit a byte.
use mathlib.Core.Path.{◌≡◌}
use mathlib.Core.Bool.{not}
use Prim.Native.Nat.{ℕ, suc, ◌+◌, ◌-◌, ◌*◌, ◌%◌, ◌^◌, ◌<◌, ◌≤◌}
use native.Mathlib.Nat.{lt-div-mul-add, le_trans, mul-le-mul_left, div-le_self, le-div_iff_mul-le, mul-div-le}
use native.Mathlib.Omega.{arith}
use Rattle.meaning.specs.Sketch.{per_byte, packed_length, byte_distance, group}
use lib.Dec.{eqb}
use Rattle.meaning.proofs.Lists.{count-upto}
use Rattle.words.proofs.Machine.{one_bit}
use Rattle.sketch.specs.Settings.{Bits}

-- 2^k as the code makes it
pub shifted : (k : ℕ) → k ≤ 8 → 1 * 2 ^ k % 2 ^ 32 ≡ 2 ^ k
shifted k h = one_bit k (omega arith)

pub z-pos : (b : ℕ) → Bits b → 0 < per_byte b
unfolding per_byte
z-pos b h = (le-div_iff_mul-le h.0).1 (omega arith)

pub z-most : (b : ℕ) → per_byte b ≤ 8
unfolding per_byte
z-most b = div-le_self 8 b

pub z-fits : (b : ℕ) → b * per_byte b ≤ 8
unfolding per_byte
z-fits b = mul-div-le 8 b

-- the bits of at most z symbols
pub bits-within : (b i : ℕ) → i ≤ per_byte b → b * i ≤ 8
bits-within b i h = le_trans (mul-le-mul_left b h) (z-fits b)

-- where byte j begins
pub byte-begins : (b n j : ℕ) → Bits b → j < packed_length b n → j * per_byte b < n
unfolding packed_length
byte-begins b n j h w =
    let p : 0 < per_byte b = z-pos b h in
    omega (arith, (le-div_iff_mul-le {k = per_byte b} {x = suc j} {y = n + per_byte b - 1} p).0 w)

-- the bytes take all symbols
pub bytes-cover : (b n : ℕ) → Bits b → n ≤ packed_length b n * per_byte b
unfolding packed_length
bytes-cover b n h =
    let p : 0 < per_byte b = z-pos b h in
    omega (arith, lt-div-mul-add {a = n + per_byte b - 1} {b = per_byte b} p)

pub bytes_most : (b n : ℕ) → packed_length b n ≤ n + 8
unfolding packed_length
bytes_most b n = omega (arith, div-le_self (n + per_byte b - 1) (per_byte b), z-most b)

pub byte_of : (b n j : ℕ) → Bits b → j * per_byte b < n → j < packed_length b n
unfolding packed_length
byte_of b n j h w =
    let p : 0 < per_byte b = z-pos b h in
    (le-div_iff_mul-le {k = per_byte b} {x = suc j} {y = n + per_byte b - 1} p).1 (omega arith)

pub byte-distance-most : (b v : ℕ) → byte_distance b v ≤ 8
unfolding byte_distance
byte-distance-most b v = omega (arith, count-upto (λ (i : ℕ). not (eqb (group b v i) 0)) (per_byte b), z-most b)
