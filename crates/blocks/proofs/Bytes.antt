-- The packed byte of a page's symbols.
use Prim.Native.Nat.{ℕ, zero, suc, ◌+◌, ◌*◌, ◌-◌, ◌%◌, ◌^◌, ◌<◌, ◌≤◌, min}
use mathlib.Core.Path.{◌≡◌, refl}
use mathlib.Core.List.{List}
use native.Mathlib.Omega.{arith}
use native.Mathlib.Nat.{mod-lt, mul-le-mul_left, mul-le-mul_right, mul-suc, le_trans}
use lib.Bits.{bit_and, and_mask}
use lib.Pow.{pow_pos, pow_mono, pow-add, shl_exact}
use lib.ListN.{length, get_or}
use Rattle.blocks.specs.declared.Level.{Level}
use Rattle.blocks.specs.declared.Rows.{Rows}
use Rattle.blocks.specs.Tables.{SketchTable, RowTable}
use Rattle.blocks.specs.Packed.{row_byte, page_byte, level_at}
use Rattle.words.proofs.Machine.{one_bit}

pub row_below : (b : ℕ) (S : List ℕ) (i n : ℕ) → row_byte b S i n < 2 ^ (b * n)
unfolding row_byte
row_below b S i zero = pow_pos (b * 0)
row_below b S i (suc n) =
    let h : suc (row_byte b S (suc i) n) ≤ 2 ^ (b * n) = row_below b S (suc i) n in
    rw (mul-suc b n, pow-add 2 (b * n) b) (omega (arith, mod-lt (get_or S i 0) (pow_pos b), mul-le-mul_left (2 ^ b) h))

pub row_small : (b : ℕ) (S : List ℕ) (i n : ℕ) → b * n ≤ 8 → row_byte b S i n < 256
row_small b S i n l = omega (arith, row_below b S i n, pow_mono l)

-- a turn of the loop, from the last symbol to the first
pub row-end : (b : ℕ) (S : List ℕ) (i count : ℕ) → 0 ≡ row_byte b S i (count - count)
unfolding row_byte
row-end b S i count = let e : count - count ≡ 0 = omega arith in rw e refl

pub row-turn : (b : ℕ) (S : List ℕ) (at count i v : ℕ) → b ≤ 8 → b * count ≤ 8 → 0 < i → i ≤ count → v ≡ row_byte b S (at + i) (count - i) →
    v * 2 ^ b % 2 ^ 32 + bit_and (get_or S (at + (i - 1)) 0) (1 * 2 ^ b % 2 ^ 32 - 1) ≡ row_byte b S (at + (i - 1)) (count - (i - 1))
unfolding row_byte
row-turn b S at count i v lb l z m e =
    let q : count - (i - 1) ≡ suc (count - i) = omega arith in
    let r : at + i ≡ suc (at + (i - 1)) = omega arith in
    let h : row_byte b S (suc (at + (i - 1))) (count - i) < 2 ^ (b * (count - i)) = row_below b S (suc (at + (i - 1))) (count - i) in
    let k : suc (count - i) ≤ count = omega arith in
    let j : b * (count - i) + b ≤ 32 = omega (arith, mul-suc b (count - i), mul-le-mul_left b k) in
    rw (one_bit b (omega (arith, lb)), and_mask (get_or S (at + (i - 1)) 0) b, q, e, r, shl_exact (b * (count - i)) b 32 h j) (omega arith)

pub row_fits : (b : ℕ) (S : List ℕ) (at count i v : ℕ) → b ≤ 8 → b * count ≤ 8 → 0 < i → i ≤ count → v ≡ row_byte b S (at + i) (count - i) →
    v * 2 ^ b % 2 ^ 32 + bit_and (get_or S (at + (i - 1)) 0) (1 * 2 ^ b % 2 ^ 32 - 1) < 2 ^ 32
row_fits b S at count i v lb l z m e =
    let k : count - (i - 1) ≤ count = omega arith in
    omega (arith, row-turn b S at count i v lb l z m e, row_small b S (at + (i - 1)) (count - (i - 1)) (le_trans (mul-le-mul_left b k) l))

pub mask_fits : (b : ℕ) → b ≤ 8 → 1 ≤ 1 * 2 ^ b % 2 ^ 32
mask_fits b l = rw (one_bit b (omega arith)) (pow_pos b)

pub row_done : (b : ℕ) (S : List ℕ) (at count i v : ℕ) → i ≤ 0 → v ≡ row_byte b S (at + i) (count - i) → v ≡ row_byte b S at count
row_done b S at count i v l e =
    let q : i ≡ 0 = omega arith in
    let r : at + i ≡ at = omega arith in
    let z : count - i ≡ count = omega arith in
    rw (r, z) at e

pub row_last : (b : ℕ) (S : List ℕ) (at count i v : ℕ) → b * count ≤ 8 → i ≤ 0 → v ≡ row_byte b S (at + i) (count - i) → v < 256
row_last b S at count i v l z e = omega (arith, row_done b S at count i v z e, row_small b S at count l)

-- a level's symbols of a page lie in the table
pub row_in : (pcap p : ℕ) (v : Level) (S : List ℕ) → p < pcap → SketchTable pcap v S → p * v.symbols + v.from + v.count ≤ length S
row_in pcap p v S l t = omega (arith, t.long, t.inside, mul-le-mul_right v.symbols l)

-- a level of a block
pub level-small : (k per : ℕ) → k < 64 → per ≤ 8 → k * per < 2 ^ 64
level-small k per l m = omega (arith, mul-le-mul_left k m)

module _ (r : Rows) (k : ℕ) where
  level-is : (f c : ℕ) → f ≡ r.start + min (k * r.per) r.length → c ≡ min r.per (r.length - k * r.per) →
      ◌≡◌ {A = Level} (record { bits = r.bits; symbols = r.symbols; from = f; count = c }) (level_at r k)
  unfolding level_at
  level-is f c e q = λ i. record { bits = r.bits; symbols = r.symbols; from = e i; count = q i }

  pub level-none : r.length ≤ k * r.per → ◌≡◌ {A = Level} (record { bits = r.bits; symbols = r.symbols; from = r.start + r.length; count = 0 }) (level_at r k)
  level-none l = level-is (r.start + r.length) 0 (omega arith) (omega arith)

  module _ (l : k * r.per < r.length) where
    pub level-last : r.length - k * r.per < r.per →
        ◌≡◌ {A = Level} (record { bits = r.bits; symbols = r.symbols; from = r.start + k * r.per; count = r.length - k * r.per }) (level_at r k)
    level-last m = level-is (r.start + k * r.per) (r.length - k * r.per) (omega arith) (omega arith)

    pub level-full : r.per ≤ r.length - k * r.per →
        ◌≡◌ {A = Level} (record { bits = r.bits; symbols = r.symbols; from = r.start + k * r.per; count = r.per }) (level_at r k)
    level-full m = level-is (r.start + k * r.per) r.per (omega arith) (omega arith)

pub level-table : (pcap : ℕ) (r : Rows) (S : List ℕ) (k : ℕ) → RowTable pcap r S → SketchTable pcap (level_at r k) S
unfolding level_at
level-table pcap r S k t =
    let c : min r.per (r.length - k * r.per) ≤ r.per = omega arith in
    record {
      long = t.long;
      inside = omega (arith, t.inside);
      narrow = t.narrow;
      fits = le_trans (mul-le-mul_left r.bits c) t.fits;
    }

pub level-path : (pcap : ℕ) (r : Rows) (v : Level) (S : List ℕ) (k : ℕ) → v ≡ level_at r k → RowTable pcap r S → SketchTable pcap v S
level-path pcap r v S k e t = rw e (level-table pcap r S k t)

pub byte_small : (pcap : ℕ) (v : Level) (S : List ℕ) (p : ℕ) → SketchTable pcap v S → page_byte S v p < 256
unfolding page_byte
byte_small pcap v S p t = row_small v.bits S (p * v.symbols + v.from) v.count t.fits
