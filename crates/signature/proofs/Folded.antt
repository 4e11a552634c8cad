-- Laws of folded bytes.
use Prim.Native.Nat.{ℕ, zero, suc, ◌+◌, ◌*◌, ◌/◌, ◌%◌, ◌^◌, ◌<◌}
use native.Mathlib.Nat.{zero-add}
use native.Mathlib.Omega.{arith}
use mathlib.Core.Path.{◌≡◌, refl, sym, ap, ◌∙◌}
use mathlib.Core.Bool.{true}
use mathlib.Core.List.{List, [], ◌∷◌, map}
use lib.Dec.{ltb}
use lib.Bits.{bit_xor, bit_or, xor_lt, xor_block, or_shifted}
use lib.ListN.{length, length-map}
use borrow.Author.Tests.{ltb-true}
use Rattle.meaning.specs.Lists.{all, from, upto}
use Rattle.meaning.specs.Sketch.{in_range, pack_byte, pack, group}
use Rattle.meaning.proofs.Lists.{and_first, and_second, length-upto, upto-at}
use Rattle.sketch_laws.proofs.Packing.{range-of, group-byte, pack-byte}
use Rattle.layout.specs.Signature.{folded_byte, folded}

-- the bytes of a packing are numbers of 8 bits
pub packed-range : (b : ℕ) (xs : List ℕ) → in_range b xs ≡ true → in_range 8 (pack b xs) ≡ true
packed-range b xs r = range-of 8 (pack b xs) (λ k l. pack-byte b k xs r)

folded-byte-lt : (i : ℕ) (vs : List ℕ) → in_range 8 vs ≡ true → folded_byte i vs < 2 ^ 8
unfolding folded_byte in_range all
folded-byte-lt i [] r = omega arith
folded-byte-lt zero (v ∷ vs) r =
    xor_lt 8 v _
    (ltb-true v (2 ^ 8) (and_first (ltb v (2 ^ 8)) (in_range 8 vs) r))
    (folded-byte-lt _ vs (and_second (ltb v (2 ^ 8)) (in_range 8 vs) r))
folded-byte-lt (suc i) (v ∷ vs) r = folded-byte-lt i vs (and_second (ltb v (2 ^ 8)) (in_range 8 vs) r)

-- the bytes of the word
pub folded-at : (i : ℕ) (vs : List ℕ) → in_range 8 vs ≡ true → i < 4 → group 8 (folded vs) i ≡ folded_byte i vs
unfolding folded
folded-at i vs r h =
    let f : ℕ → ℕ = λ i. folded_byte i vs in
    let bytes : List ℕ = map f (upto 4) in
    let long : length bytes ≡ 4 = length-map (upto 4) f ∙ length-upto 4 in
    group-byte 8 i bytes
    (range-of 8 bytes (λ j l. rw (upto-at f 4 j 0 (omega arith)) (folded-byte-lt j vs r)))
    ∙ upto-at f 4 i 0 h

pub folded-none : folded [] ≡ 0
unfolding folded folded_byte pack_byte upto from
folded-none = refl

-- one byte more in front: the word rotated by a byte, and the byte into its lowest
pub folded_more : (v : ℕ) (vs : List ℕ) → v < 2 ^ 8 → in_range 8 vs ≡ true →
    bit_xor v (bit_or (folded vs * 2 ^ 8 % 2 ^ 32) (folded vs / 2 ^ 24)) ≡ folded (v ∷ vs)
unfolding folded folded_byte pack_byte upto from
folded_more v vs h r =
    let s : ℕ → ℕ = λ i. folded_byte i vs in
    let rest : ℕ = s 0 + 256 * s 1 + 65536 * s 2 in
    let below : (i : ℕ) → s i < 2 ^ 8 = λ i. folded-byte-lt i vs r in
    let high : folded vs * 2 ^ 8 % 2 ^ 32 ≡ rest * 2 ^ 8 = omega (arith, below 0, below 1, below 2, below 3) in
    let low : folded vs / 2 ^ 24 ≡ s 3 = omega (arith, below 0, below 1, below 2, below 3) in
    rw (high, low, or_shifted rest 8 (s 3) (below 3))
    (omega (arith, ap (λ (u : ℕ). bit_xor u (rest * 2 ^ 8 + s 3)) (sym (zero-add v)) ∙ xor_block 8 0 rest v (s 3) h (below 3)))
