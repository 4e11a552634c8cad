-- Laws of flags in a table of words, and of runs of zeros.
use mathlib.Core.Path.{◌≡◌, refl, ap, ◌∙◌}
use mathlib.Core.Bool.{Bool, true, false, cond}
use mathlib.Core.Logic.{◌≢◌}
use mathlib.Core.List.{List, ◌∷◌, ◌++◌, append_assoc}
use Prim.Native.Nat.{ℕ, suc, ◌+◌, ◌-◌, ◌*◌, ◌/◌, ◌%◌, ◌≤◌, ◌<◌}
use native.Mathlib.Nat.{add-zero}
use native.Mathlib.Omega.{arith}
use native.Mathlib.Decide.{dec_lt, ℕ_discrete}
use lib.ListN.{length, get_or, set, take, drop, replicate, length-append, length-take, length-drop, length-set, length-replicate, get_or-replicate, get_or-append, take-append-drop, replicate-append-replicate}
use lib.Seq.{get_or-set_same, get_or-set_other, take-set-le, drop-set-lt, get_or-take, get_or-append-add, length-take-le, drop-cons, set_at, set_out, set-get_or}
use lib.Dec.{eqb}
use borrow.Author.Tests.{eqb-true, eqb-false}
use Rattle.words.specs.Bits.{bit, with_bit, flag, with_flag, zeroed}
use Rattle.words.proofs.Bits.{bit-zero, with-same, bit-with-same, bit-with-other}

-- ---- a flag is a bit of a word

pub flag-bit : (ws : List ℕ) (base i k : ℕ) → k < 32 → flag ws base (i * 32 + k) ≡ bit (get_or ws (base + i) 0) k
unfolding flag
flag-bit ws base i k h =
    let q : (i * 32 + k) / 32 ≡ i = omega arith in
    let r : (i * 32 + k) % 32 ≡ k = omega arith in
    rw (q, r)

-- in a part of the table
pub flag-take : (m : ℕ) (ws : List ℕ) (base n : ℕ) → base + n / 32 < m → flag (take m ws) base n ≡ flag ws base n
unfolding flag
flag-take m ws base n h = rw (get_or-take m ws (base + n / 32) 0 h)

-- ---- a table with a flag set or cleared

module _ (ws : List ℕ) (base n : ℕ) (v : Bool) where
  pub length-with : length (with_flag ws base n v) ≡ length ws
  unfolding with_flag
  length-with = length-set ws (base + n / 32) (with_bit (get_or ws (base + n / 32) 0) (n % 32) v)

  -- beyond the table nothing is written
  pub with-beyond : length ws ≤ base + n / 32 → with_flag ws base n v ≡ ws
  unfolding with_flag
  with-beyond h = set_out ws (base + n / 32) (with_bit (get_or ws (base + n / 32) 0) (n % 32) v) h

  -- its words
  pub word-with : base + n / 32 < length ws → get_or (with_flag ws base n v) (base + n / 32) 0 ≡ with_bit (get_or ws (base + n / 32) 0) (n % 32) v
  unfolding with_flag
  word-with h = get_or-set_same ws (base + n / 32) (with_bit (get_or ws (base + n / 32) 0) (n % 32) v) 0 h

  pub word-with-other : (i : ℕ) → i ≢ base + n / 32 → get_or (with_flag ws base n v) i 0 ≡ get_or ws i 0
  unfolding with_flag
  word-with-other i h = get_or-set_other ws (base + n / 32) i (with_bit (get_or ws (base + n / 32) 0) (n % 32) v) 0 h

  -- its flags: the same one, another of the same run, one in another word
  pub flag-with-same : base + n / 32 < length ws → flag (with_flag ws base n v) base n ≡ v
  unfolding flag
  flag-with-same h = rw (word-with h) (bit-with-same (get_or ws (base + n / 32) 0) (n % 32) v)

  pub flag-with-apart : (b k : ℕ) → b + k / 32 ≢ base + n / 32 → flag (with_flag ws base n v) b k ≡ flag ws b k
  unfolding flag
  flag-with-apart b k h = rw (word-with-other (b + k / 32) h)

  pub flag-with-other : (k : ℕ) → k ≢ n → flag (with_flag ws base n v) base k ≡ flag ws base k
  unfolding flag
  flag-with-other k h = go (ℕ_discrete (k / 32) (n / 32)) (dec_lt (base + n / 32) (length ws))
    where
      go : Dec (k / 32 ≡ n / 32) → Dec (base + n / 32 < length ws) → flag (with_flag ws base n v) base k ≡ flag ws base k
      go (yes q) (yes l) = rw (q, word-with l) (bit-with-other (get_or ws (base + n / 32) 0) (n % 32) v (k % 32) (omega arith))
      go (yes q) (no l) = rw (with-beyond (omega arith))
      go (no q) l = flag-with-apart base k (λ e. q (omega arith))

  pub flag-with : base + n / 32 < length ws → (k : ℕ) → flag (with_flag ws base n v) base k ≡ cond (eqb k n) v (flag ws base k)
  flag-with h k = go (eqb k n) refl
    where
      go : (t : Bool) → eqb k n ≡ t → flag (with_flag ws base n v) base k ≡ cond t v (flag ws base k)
      go true e = rw (eqb-true k n e) (flag-with-same h)
      go false e = flag-with-other k (eqb-false k n e)

  -- a flag that is v already: nothing is changed
  pub with-own : flag ws base n ≡ v → with_flag ws base n v ≡ ws
  unfolding flag with_flag
  with-own e = rw (with-same (get_or ws (base + n / 32) 0) (n % 32) v e) (set-get_or ws (base + n / 32) 0)

  -- its parts
  pub take-with : (m : ℕ) → m ≤ base + n / 32 → take m (with_flag ws base n v) ≡ take m ws
  unfolding with_flag
  take-with m h = take-set-le m ws (base + n / 32) (with_bit (get_or ws (base + n / 32) 0) (n % 32) v) h

  pub drop-with : (m : ℕ) → base + n / 32 < m → drop m (with_flag ws base n v) ≡ drop m ws
  unfolding with_flag
  drop-with m h = drop-set-lt m ws (base + n / 32) (with_bit (get_or ws (base + n / 32) 0) (n % 32) v) h

-- ---- a run of zeros

abbrev zeros : ℕ → List ℕ
zeros n = replicate n 0

module _ (ws : List ℕ) (base n : ℕ) (fits : base + n ≤ length ws) where
  pub length-zeroed : length (zeroed ws base n) ≡ length ws
  unfolding zeroed
  length-zeroed = simp (length-append, length-take, length-replicate, length-drop) (omega arith)

  -- its words
  pub word-zeroed : (i : ℕ) → base ≤ i → i < base + n → get_or (zeroed ws base n) i 0 ≡ 0
  unfolding zeroed
  word-zeroed i l h =
      let t : length (take base ws) ≡ base = length-take-le base ws (omega arith) in
      let e : i ≡ length (take base ws) + (i - base) = omega arith in
      let r : i - base < length (zeros n) = omega (arith, length-replicate {A = ℕ} n 0) in
      ap (λ (j : ℕ). get_or (zeroed ws base n) j 0) e
      ∙ get_or-append-add (take base ws) (zeros n ++ drop (base + n) ws) (i - base) 0
      ∙ get_or-append (zeros n) (drop (base + n) ws) 0 (i - base) r
      ∙ get_or-replicate n (i - base) 0 0 (omega arith)

  -- its flags
  pub flag-zeroed : (k : ℕ) → k < n * 32 → flag (zeroed ws base n) base k ≡ false
  unfolding flag
  flag-zeroed k h = rw (word-zeroed (base + k / 32) (omega arith) (omega arith)) (bit-zero (k % 32))

-- word by word
pub zeroed-none : (ws : List ℕ) (base : ℕ) → zeroed ws base 0 ≡ ws
unfolding zeroed
zeroed-none ws base = rw (add-zero base) (take-append-drop base ws)

pub zeroed-next : (ws : List ℕ) (base n : ℕ) → base + n < length ws → set (zeroed ws base n) (base + n) 0 ≡ zeroed ws base (n + 1)
unfolding zeroed
zeroed-next ws base n h =
    let l : length (take base ws ++ zeros n) ≡ base + n = simp (length-append, length-take, length-replicate) (omega arith) in
    let e : base + (n + 1) ≡ suc (base + n) = omega arith in
    rw (e, ← replicate-append-replicate {A = ℕ} n 1 0, drop-cons ws (base + n) 0 h, ← append_assoc (take base ws) (zeros n) (get_or ws (base + n) 0 ∷ drop (suc (base + n)) ws))
    (set_at (take base ws ++ zeros n) (get_or ws (base + n) 0) (drop (suc (base + n)) ws) 0 (base + n) l ∙ simp append_assoc)
