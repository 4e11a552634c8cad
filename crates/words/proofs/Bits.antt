-- Laws of the bits of a word. What holds at any width n is stated over n; a word of a table has the width 32.
use mathlib.Core.Path.{◌≡◌, refl, sym, ap, ap₂, ◌∙◌}
use mathlib.Core.Bool.{Bool, true, false, cond, ◌||◌, ◌&&◌}
use mathlib.Core.Logic.{◌≢◌}
use mathlib.Core.List.{List, [], ◌∷◌}
use Prim.Native.Nat.{ℕ, zero, suc, ◌+◌, ◌-◌, ◌*◌, ◌/◌, ◌%◌, ◌^◌, ◌≤◌, ◌<◌, min, max, suc-le-suc}
use native.Mathlib.Nat.{pow-suc, div-one, le-div_iff_mul-le, zero-div}
use native.Mathlib.Omega.{arith}
use lib.Dec.{ltb, eqb, eqb-zero-suc, eqb-suc-zero, eqb-suc-suc}
use lib.Pow.{pow_pos, pow-add, shr-shr}
use lib.Bits.{bit_and, bit_or, and_step, and_shr, and_high, or_step, or_shr, or_add_and, or_lt, or_comm, and_le_r}
use lib.ListN.{length, get_or}
use borrow.Author.Tests.{ltb-true, ltb-false, eqb-true, eqb-false, lt-ltb, le-ltb, eq-eqb, ne_eqb}
use Rattle.words.specs.Bits.{bit, with_bit, rising, bits_of, lowest, ones}
use Rattle.words.proofs.Rising.{First, rising_none, rising-first, rising-length}

-- ---- one bit

-- as a digit
pub digit : (w k : ℕ) → w / 2 ^ k % 2 ≡ cond (bit w k) 1 0
unfolding bit
digit w k = go (bit w k) refl
  where
    go : (t : Bool) → bit w k ≡ t → w / 2 ^ k % 2 ≡ cond t 1 0
    go true e = eqb-true (w / 2 ^ k % 2) 1 e
    go false e = let n : w / 2 ^ k % 2 ≢ 1 = eqb-false (w / 2 ^ k % 2) 1 e in omega arith

pub bit-digit : (w k : ℕ) (t : Bool) → w / 2 ^ k % 2 ≡ cond t 1 0 → bit w k ≡ t
unfolding bit
bit-digit w k true e = rw e
bit-digit w k false e = rw e

-- bit 0, and the bits above it
pub bit-low : (w : ℕ) → bit w 0 ≡ eqb (w % 2) 1
unfolding bit
bit-low w = rw (div-one w)

pub bit-half : (w k : ℕ) → bit w (suc k) ≡ bit (w / 2) k
unfolding bit
bit-half w k = let s : suc k ≡ 1 + k = omega arith in rw (s, ← shr-shr w 1 k)

pub bit-zero : (k : ℕ) → bit 0 k ≡ false
unfolding bit
bit-zero k = rw (zero-div (2 ^ k))

-- a word with bit k set is at least 2 ^ k
pub bit_le : (w k : ℕ) → bit w k ≡ true → 2 ^ k ≤ w
bit_le w k h =
    let d : w / 2 ^ k % 2 ≡ 1 = digit w k ∙ ap (λ (t : Bool). cond t 1 0) h in
    let l : 1 ≤ w / 2 ^ k = omega arith in
    omega (arith, (le-div_iff_mul-le {x = 1} {y = w} (pow_pos k)).0 l)

-- ---- and, or

-- by an operation on digits that acts as one on bits
bit-by : (f : ℕ → ℕ → ℕ) (g : Bool → Bool → Bool) → ((s t : Bool) → f (cond s 1 0) (cond t 1 0) ≡ cond (g s t) 1 0)
    → (w a b k : ℕ) → w / 2 ^ k % 2 ≡ f (a / 2 ^ k % 2) (b / 2 ^ k % 2) → bit w k ≡ g (bit a k) (bit b k)
bit-by f g acts w a b k e = bit-digit w k (g (bit a k) (bit b k)) (e ∙ ap₂ f (digit a k) (digit b k) ∙ acts (bit a k) (bit b k))

pub bit-or : (a b k : ℕ) → bit (bit_or a b) k ≡ (bit a k || bit b k)
bit-or a b k = bit-by max (◌||◌) acts (bit_or a b) a b k (omega (arith, or_shr a b k, or_step (a / 2 ^ k) (b / 2 ^ k)))
  where
    acts : (s t : Bool) → max (cond s 1 0) (cond t 1 0) ≡ cond (s || t) 1 0
    acts true true = refl
    acts true false = refl
    acts false true = refl
    acts false false = refl

pub bit-and : (a b k : ℕ) → bit (bit_and a b) k ≡ (bit a k && bit b k)
bit-and a b k = bit-by min (◌&&◌) acts (bit_and a b) a b k (omega (arith, and_shr a b k, and_step (a / 2 ^ k) (b / 2 ^ k)))
  where
    acts : (s t : Bool) → min (cond s 1 0) (cond t 1 0) ≡ cond (s && t) 1 0
    acts true true = refl
    acts true false = refl
    acts false true = refl
    acts false false = refl

-- ---- a word is its bits

pub half_lt : (n w : ℕ) → w < 2 ^ suc n → w / 2 < 2 ^ n
half_lt n w h = omega (arith, pow-suc 2 n)

pub same_word : (n a b : ℕ) → a < 2 ^ n → b < 2 ^ n → ((k : ℕ) → k < n → bit a k ≡ bit b k) → a ≡ b
same_word zero a b ha hb same = omega arith
same_word (suc n) a b ha hb same =
    let above : a / 2 ≡ b / 2 = same_word n (a / 2) (b / 2) (half_lt n a ha) (half_lt n b hb)
    (λ k l. sym (bit-half a k) ∙ same (suc k) (suc-le-suc l) ∙ bit-half b k) in
    let low : a / 2 ^ 0 % 2 ≡ b / 2 ^ 0 % 2 = digit a 0 ∙ ap (λ (t : Bool). cond t 1 0) (same 0 (omega arith)) ∙ sym (digit b 0) in
    omega arith

-- a word without bits is 0; the other way it is `bit-zero`
pub zero_word : (n w : ℕ) → w < 2 ^ n → ((k : ℕ) → k < n → bit w k ≡ false) → w ≡ 0
zero_word n w h none = same_word n w 0 h (pow_pos n) (λ k l. none k l ∙ sym (bit-zero k))

-- ---- a word with a bit set or cleared

-- the sum that settles it
pub with-sum : (w k : ℕ) (v : Bool) → with_bit w k v + cond (bit w k) (2 ^ k) 0 ≡ w + cond v (2 ^ k) 0
unfolding with_bit
with-sum w k v = go v (bit w k) refl
  where
    go : (v t : Bool) → bit w k ≡ t → with_bit w k v + cond t (2 ^ k) 0 ≡ w + cond v (2 ^ k) 0
    go true true e = rw e
    go true false e = rw e (omega arith)
    go false true e = rw e (omega (arith, bit_le w k e))
    go false false e = rw e

with-low : (w : ℕ) (v : Bool) → with_bit w 0 v ≡ w / 2 * 2 + cond v 1 0
with-low w v = go (bit w 0) (digit w 0) (with-sum w 0 v)
  where
    go : (t : Bool) → w / 2 ^ 0 % 2 ≡ cond t 1 0 → with_bit w 0 v + cond t (2 ^ 0) 0 ≡ w + cond v 1 0 → with_bit w 0 v ≡ w / 2 * 2 + cond v 1 0
    go true d e = omega arith
    go false d e = omega arith

with-half : (w k : ℕ) (v : Bool) → with_bit w (suc k) v ≡ with_bit (w / 2) k v * 2 + w % 2
with-half w k v = go v (bit (w / 2) k) (rw (bit-half w k) at (with-sum w (suc k) v)) (with-sum (w / 2) k v)
  where
    go : (v t : Bool) → with_bit w (suc k) v + cond t (2 ^ suc k) 0 ≡ w + cond v (2 ^ suc k) 0
        → with_bit (w / 2) k v + cond t (2 ^ k) 0 ≡ w / 2 + cond v (2 ^ k) 0 → with_bit w (suc k) v ≡ with_bit (w / 2) k v * 2 + w % 2
    go true true e h = omega (arith, pow-suc 2 k)
    go true false e h = omega (arith, pow-suc 2 k)
    go false true e h = omega (arith, pow-suc 2 k)
    go false false e h = omega (arith, pow-suc 2 k)

pub bit-with : (w k : ℕ) (v : Bool) (j : ℕ) → bit (with_bit w k v) j ≡ cond (eqb j k) v (bit w j)
bit-with w zero v zero = rw (with-low w v, bit-low (w / 2 * 2 + cond v 1 0)) (go v)
  where
    go : (v : Bool) → eqb ((w / 2 * 2 + cond v 1 0) % 2) 1 ≡ v
    go true = eq-eqb ((w / 2 * 2 + 1) % 2) 1 (omega arith)
    go false = ne_eqb ((w / 2 * 2 + 0) % 2) 1 (omega arith)
bit-with w zero v (suc j) =
    rw (with-low w v, bit-half (w / 2 * 2 + cond v 1 0) j, go v, eqb-suc-zero j, bit-half w j)
  where
    go : (v : Bool) → (w / 2 * 2 + cond v 1 0) / 2 ≡ w / 2
    go true = omega arith
    go false = omega arith
bit-with w (suc k) v zero =
    let e : (with_bit (w / 2) k v * 2 + w % 2) % 2 ≡ w % 2 = omega arith in
    rw (with-half w k v, bit-low (with_bit (w / 2) k v * 2 + w % 2), e, eqb-zero-suc k, bit-low w)
bit-with w (suc k) v (suc j) =
    let e : (with_bit (w / 2) k v * 2 + w % 2) / 2 ≡ with_bit (w / 2) k v = omega arith in
    rw (with-half w k v, bit-half (with_bit (w / 2) k v * 2 + w % 2) j, e, eqb-suc-suc j k, bit-half w j) (bit-with (w / 2) k v j)

pub bit-with-same : (w k : ℕ) (v : Bool) → bit (with_bit w k v) k ≡ v
bit-with-same w k v = rw (bit-with w k v k, eq-eqb k k refl)

pub bit-with-other : (w k : ℕ) (v : Bool) (j : ℕ) → j ≢ k → bit (with_bit w k v) j ≡ bit w j
bit-with-other w k v j h = rw (bit-with w k v j, ne_eqb j k h)

-- a bit that is v already
pub with-same : (w k : ℕ) (v : Bool) → bit w k ≡ v → with_bit w k v ≡ w
unfolding with_bit
with-same w k true e = rw e
with-same w k false e = rw e

-- ---- by the machine's operations

pub and-bit : (w k : ℕ) → bit_and w (2 ^ k) ≡ cond (bit w k) (2 ^ k) 0
and-bit w k = rw e at (and_high w 1 k) ∙ rw (digit w k) (go (bit w k))
  where
    e : 2 ^ (1 + k) - 2 ^ k ≡ 2 ^ k
    e = omega (arith, pow-add 2 1 k)

    go : (t : Bool) → cond t 1 0 * 2 ^ k ≡ cond t (2 ^ k) 0
    go true = omega arith
    go false = omega arith

pub with-or : (w k : ℕ) → bit_or w (2 ^ k) ≡ with_bit w k true
with-or w k = omega (arith, or_add_and w (2 ^ k), and-bit w k, with-sum w k true)

pub with-and : (w k : ℕ) → w - bit_and w (2 ^ k) ≡ with_bit w k false
with-and w k = omega (arith, and-bit w k, with-sum w k false)

-- ---- the set bits, rising

pub bits-of-zero : bits_of 0 ≡ []
unfolding bits_of rising bit
bits-of-zero = refl

pub ones-bits : (w : ℕ) → ones w ≡ length (bits_of w)
unfolding ones
ones-bits w = refl

pub ones-le : (w : ℕ) → ones w ≤ 32
unfolding ones bits_of
ones-le w = rising-length (bit w) 0 32

-- a word that is not 0: its lowest bit, and the bits without it
module _ (w : ℕ) (some : w ≢ 0) (fits : w < 2 ^ 32) where
  bits-cut : First (bit w) 0 32 (lowest w) (bits_of (with_bit w (lowest w) false)) × (bits_of w ≡ lowest w ∷ bits_of (with_bit w (lowest w) false))
  unfolding lowest bits_of
  bits-cut = go (rising (bit w) 0 32) refl
    where
      cut : ℕ → List ℕ
      cut k = rising (bit (with_bit w k false)) 0 32

      go : (l : List ℕ) → rising (bit w) 0 32 ≡ l → First (bit w) 0 32 (get_or l 0 32) (cut (get_or l 0 32)) × (rising (bit w) 0 32 ≡ get_or l 0 32 ∷ cut (get_or l 0 32))
      go [] e = absurd (some (zero_word 32 w fits (λ k h. rising_none (bit w) 0 32 e k (omega arith) h)))
      go (j ∷ l) e =
          let f : First (bit w) 0 32 j l = rising-first (bit w) 0 32 j l e in
          rw (f.rest (bit (with_bit w j false)) (bit-with-same w j false) (bit-with-other w j false)) (f, e)

  pub lowest-lt : lowest w < 32
  lowest-lt = omega (arith, bits-cut.0.below)

  pub lowest_set : bit w (lowest w) ≡ true
  lowest_set = bits-cut.0.passes

  pub lowest-least : (k : ℕ) → k < lowest w → bit w k ≡ false
  lowest-least k h = bits-cut.0.least k (omega arith) h

  pub bits-step : bits_of w ≡ lowest w ∷ bits_of (with_bit w (lowest w) false)
  bits-step = bits-cut.1

  pub cut-lt : with_bit w (lowest w) false < w
  cut-lt = omega (arith, rw lowest_set at (with-sum w (lowest w) false), pow_pos (lowest w))

-- ---- the bits of two words together
or_above : (a b : ℕ) → a ≤ bit_or a b
or_above a b = omega (arith, or_add_and a b, and_le_r a b)

-- two numbers have no bit above the lowest k exactly where their joined bits have none
pub or-below : (k a b : ℕ) → ltb (bit_or a b) (2 ^ k) ≡ ltb a (2 ^ k) && ltb b (2 ^ k)
or-below k a b = go (ltb a (2 ^ k)) refl (ltb b (2 ^ k)) refl
  where
    go : (s : Bool) → ltb a (2 ^ k) ≡ s → (t : Bool) → ltb b (2 ^ k) ≡ t → ltb (bit_or a b) (2 ^ k) ≡ s && t
    go true e true f = lt-ltb (bit_or a b) (2 ^ k) (or_lt k a b (ltb-true a (2 ^ k) e) (ltb-true b (2 ^ k) f))
    go true e false f =
        le-ltb (bit_or a b) (2 ^ k) (omega (arith, ltb-false b (2 ^ k) f, or_above b a, or_comm a b))
    go false e t f = le-ltb (bit_or a b) (2 ^ k) (omega (arith, ltb-false a (2 ^ k) e, or_above a b))
