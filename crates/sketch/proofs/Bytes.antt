-- One packed byte.
use mathlib.Core.Bool.{true}
use mathlib.Core.List.{List, [], ◌∷◌}
use mathlib.Core.Path.{◌≡◌, ap, ◌∙◌}
use Prim.Native.Nat.{ℕ, suc, ◌+◌, ◌-◌, ◌*◌, ◌%◌, ◌^◌, ◌<◌, ◌≤◌}
use native.Mathlib.Nat.{mul-le-mul_left, mul-suc, mul-zero, lt_of_lt_of_le, le_trans}
use native.Mathlib.Omega.{arith}
use lib.Dec.{ltb}
use lib.ListN.{length, drop, get_or, length-drop}
use lib.Pow.{pow-add, pow_mono, shl_exact}
use lib.Seq.{drop-cons}
use borrow.Author.Tests.{ltb-true}
use Rattle.meaning.specs.Lists.{all}
use Rattle.meaning.specs.Sketch.{in_range, per_byte, pack_byte}
use Rattle.sketch.proofs.Lists.{all_head, all_tail, all_drop}
use Rattle.sketch.proofs.Width.{z-fits}

module _ (b : ℕ) where
  byte-below : (xs : List ℕ) → in_range b xs ≡ true → pack_byte b xs < 2 ^ (b * length xs)
  unfolding in_range all pack_byte
  byte-below [] h = rw (mul-zero b) (omega arith)
  byte-below (x ∷ xs) h =
      let low : x < 2 ^ b = ltb-true x (2 ^ b) (all_head (λ (y : ℕ). ltb y (2 ^ b)) x xs h) in
      let high : pack_byte b xs < 2 ^ (b * length xs) = byte-below xs (all_tail (λ (y : ℕ). ltb y (2 ^ b)) x xs h) in
      let room : 2 ^ (b * suc (length xs)) ≡ 2 ^ (b * length xs) * 2 ^ b = ap (λ (k : ℕ). 2 ^ k) (mul-suc b (length xs)) ∙ pow-add 2 (b * length xs) b in
      omega (arith, mul-le-mul_left (2 ^ b) high)

  module _ (xs : List ℕ) (few : length xs ≤ per_byte b) (h : in_range b xs ≡ true) where
    -- the symbols from place i on fit a byte
    pub byte_fits : (i : ℕ) → pack_byte b (drop i xs) < 256
    unfolding in_range
    byte_fits i =
        lt_of_lt_of_le (byte-below (drop i xs) (all_drop (λ (y : ℕ). ltb y (2 ^ b)) i xs h))
        (pow_mono {i = b * length (drop i xs)} {j = 8} (le_trans (mul-le-mul_left b (omega (arith, length-drop i xs))) (z-fits b)))

    -- the symbol before place i goes below those from i on, as the code puts it there
    pub byte_step : (v i : ℕ) → b ≤ 8 → 0 < i → i ≤ length xs → v ≡ pack_byte b (drop i xs)
        → v * 2 ^ b % 2 ^ 32 + get_or xs (i - 1) 0 ≡ pack_byte b (drop (i - 1) xs)
    unfolding pack_byte
    byte_step v i hb some most e =
        let within : i - 1 < length xs = omega arith in
        let next : suc (i - 1) ≡ i = omega arith in
        let small : v < 256 = omega (arith, byte_fits i) in
        let exact : v * 2 ^ b % 2 ^ 32 ≡ v * 2 ^ b = shl_exact 8 b 32 small (omega arith) in
        let below : pack_byte b (drop (i - 1) xs) ≡ get_or xs (i - 1) 0 + 2 ^ b * pack_byte b (drop i xs) =
        ap (pack_byte b) (drop-cons xs (i - 1) 0 within) ∙ ap (λ (k : ℕ). get_or xs (i - 1) 0 + 2 ^ b * pack_byte b (drop k xs)) next in
        omega (arith, exact, below, ap (λ (k : ℕ). 2 ^ b * k) e)
