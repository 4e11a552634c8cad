-- Bits of a word of 32 bits, flags in a run of words, and runs of zeros.
use Rattle.std.specs.Prelude.{Bool, true, false, cond, List, [], ◌∷◌, ◌++◌, ℕ, zero, suc, ◌+◌, ◌-◌, ◌/◌, ◌%◌, ◌^◌, eqb, length, get_or, set, take, drop, replicate}

-- which of the n numbers from k on pass a test, rising
unfoldable pub rising : (ℕ → Bool) → ℕ → ℕ → List ℕ
rising p k zero = []
rising p k (suc n) = cond (p k) (k ∷ []) [] ++ rising p (suc k) n

-- ---- a word

-- bit k of a word
unfoldable pub bit : ℕ → ℕ → Bool
bit w k = eqb (w / 2 ^ k % 2) 1

-- a word with bit k set to v
unfoldable pub with_bit : ℕ → ℕ → Bool → ℕ
with_bit w k true = cond (bit w k) w (w + 2 ^ k)
with_bit w k false = cond (bit w k) (w - 2 ^ k) w

-- the set bits of a word, rising
unfoldable pub bits_of : ℕ → List ℕ
bits_of w = rising (bit w) 0 32

-- the lowest set bit; 32 if there is none
unfoldable pub lowest : ℕ → ℕ
lowest w = get_or (bits_of w) 0 32

-- how many bits are set
unfoldable pub ones : ℕ → ℕ
ones w = length (bits_of w)

-- ---- words in a table

-- flag n of the words that begin at word `base`, 32 in a word
unfoldable pub flag : List ℕ → ℕ → ℕ → Bool
flag ws base n = bit (get_or ws (base + n / 32) 0) (n % 32)

-- the table with that flag set to v
unfoldable pub with_flag : List ℕ → ℕ → ℕ → Bool → List ℕ
with_flag ws base n v = set ws (base + n / 32) (with_bit (get_or ws (base + n / 32) 0) (n % 32) v)

-- the n words from `base` on are 0, the rest is as it was
unfoldable pub zeroed : List ℕ → ℕ → ℕ → List ℕ
zeroed ws base n = take base ws ++ (replicate n 0 ++ drop (base + n) ws)
