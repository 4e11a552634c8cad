-- What the machine's operations on words give, in the terms of the definitions.
use mathlib.Core.Path.{◌≡◌, refl, ◌∙◌}
use mathlib.Core.Bool.{Bool, true, false, cond, not}
use mathlib.Core.Logic.{◌≢◌}
use mathlib.Core.List.{List, [], ◌∷◌, ◌++◌, map}
use Prim.Native.Nat.{ℕ, zero, suc, ◌+◌, ◌-◌, ◌*◌, ◌/◌, ◌%◌, ◌^◌, ◌<◌}
use native.Mathlib.Nat.{pow-suc, one-mul}
use native.Mathlib.Omega.{arith}
use lib.Pow.{shl_exact}
use lib.Bits.{bit_and, bit_or, and_step, and_self}
use lib.ListN.{length, get_or, set, length-map, get_or-map}
use lib.Count
use mir.Val.{bool_byte}
use Rattle.words.specs.Bits.{bit, with_bit, rising, bits_of, lowest, with_flag}
use Rattle.words.proofs.Bits.{digit, bit-half, half_lt, with-sum, with-or, with-and, lowest_set}
use Rattle.words.proofs.Rising.{rising-map}

-- ---- a test as a number

pub not_byte : (t : Bool) → bool_byte (not t) ≡ cond t 0 1
not_byte true = refl
not_byte false = refl

-- ---- a shifted 1

pub one_bit : (k : ℕ) → k < 32 → 1 * 2 ^ k % 2 ^ 32 ≡ 2 ^ k
one_bit k h = shl_exact 1 k 32 (omega arith) (omega arith) ∙ one-mul (2 ^ k)

-- ---- counts of zeros and ones, digit by digit from the lowest

shifted : (w n : ℕ) → rising (bit w) 1 n ≡ map suc (rising (bit (w / 2)) 0 n)
shifted w n = rising-map suc (λ i. refl) (bit w) (bit (w / 2)) 0 n (λ i l h. bit-half w i)

trailing : (n w : ℕ) → Count.count_trailing_zeros n w ≡ get_or (rising (bit w) 0 n) 0 n
unfolding rising Count.count_trailing_zeros
trailing zero w = refl
trailing (suc n) w = go (bit w 0) (digit w 0) (trailing n (w / 2))
  where
    go : (t : Bool) → w / 2 ^ 0 % 2 ≡ cond t 1 0 → Count.count_trailing_zeros n (w / 2) ≡ get_or (rising (bit (w / 2)) 0 n) 0 n
        → Count.under (w % 2) (Count.count_trailing_zeros n (w / 2)) ≡ get_or (cond t (0 ∷ []) [] ++ rising (bit w) 1 n) 0 (suc n)
    go true d above = let e : w % 2 ≡ 1 = omega arith in rw e
    go false d above =
        let e : w % 2 ≡ 0 = omega arith in
        rw (e, shifted w n, get_or-map suc (rising (bit (w / 2)) 0 n) 0 n, above)

counted : (n w : ℕ) → w < 2 ^ n → Count.ones w ≡ length (rising (bit w) 0 n)
unfolding rising Count.ones
counted zero w h = let e : w ≡ 0 = omega arith in rw e
counted (suc n) w h = go (bit w 0) (digit w 0) (counted n (w / 2) (half_lt n w h))
  where
    go : (t : Bool) → w / 2 ^ 0 % 2 ≡ cond t 1 0 → Count.ones (w / 2) ≡ length (rising (bit (w / 2)) 0 n)
        → Count.ones w ≡ length (cond t (0 ∷ []) [] ++ rising (bit w) 1 n)
    go true d above = rw (Count.ones_step w, shifted w n, length-map (rising (bit (w / 2)) 0 n) suc) (omega arith)
    go false d above = rw (Count.ones_step w, shifted w n, length-map (rising (bit (w / 2)) 0 n) suc) (omega arith)

-- ---- w & (w - 1)

and-pred : (n w : ℕ) → w ≢ 0 → w < 2 ^ n → bit_and w (w - 1) ≡ w - 2 ^ Count.count_trailing_zeros n w
unfolding Count.count_trailing_zeros
and-pred zero w some h = absurd (omega arith)
and-pred (suc n) w some h = go (w % 2) refl (omega arith) (and-pred n (w / 2))
  where
    go : (d : ℕ) → w % 2 ≡ d → d < 2 → (w / 2 ≢ 0 → w / 2 < 2 ^ n → bit_and (w / 2) (w / 2 - 1) ≡ w / 2 - 2 ^ Count.count_trailing_zeros n (w / 2))
        → bit_and w (w - 1) ≡ w - 2 ^ Count.under d (Count.count_trailing_zeros n (w / 2))
    go zero e l above =
        let p : (w - 1) / 2 ≡ w / 2 - 1 = omega arith in
        omega (arith, rw p at (and_step w (w - 1)), above (omega arith) (half_lt n w h), pow-suc 2 (Count.count_trailing_zeros n (w / 2)))
    go (suc zero) e l above =
        let p : (w - 1) / 2 ≡ w / 2 = omega arith in
        omega (arith, rw p at (and_step w (w - 1)), and_self (w / 2))
    go (suc (suc d)) e l above = absurd (omega arith)

-- ---- the functions' results

pub lowest-found : (w : ℕ) → Count.count_trailing_zeros 32 w ≡ lowest w
unfolding lowest bits_of
lowest-found w = trailing 32 w

pub lowest-cut : (w : ℕ) → w ≢ 0 → w < 2 ^ 32 → bit_and w (w - 1) ≡ with_bit w (lowest w) false
lowest-cut w some h =
    omega (arith, rw (lowest-found w) at (and-pred 32 w some h), rw (lowest_set w some h) at (with-sum w (lowest w) false))

pub flag-set : (ws : List ℕ) (base n : ℕ)
    → set ws (base + n / 32) (bit_or (get_or ws (base + n / 32) 0) (1 * 2 ^ (n % 32) % 2 ^ 32)) ≡ with_flag ws base n true
unfolding with_flag
flag-set ws base n = rw (one_bit (n % 32) (omega arith), with-or (get_or ws (base + n / 32) 0) (n % 32))

pub flag_cleared : (ws : List ℕ) (base n : ℕ)
    → set ws (base + n / 32) (get_or ws (base + n / 32) 0 - bit_and (get_or ws (base + n / 32) 0) (1 * 2 ^ (n % 32) % 2 ^ 32)) ≡ with_flag ws base n false
unfolding with_flag
flag_cleared ws base n = rw (one_bit (n % 32) (omega arith), with-and (get_or ws (base + n / 32) 0) (n % 32))
