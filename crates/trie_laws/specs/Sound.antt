-- What it is for a trie to be sound (document 01, "A store is sound if .."), as one test; and which pages stand in it.
use Rattle.std.specs.Prelude.{ℕ, suc, ◌≡◌, Bool, true, false, cond, ◌&&◌, List, [], ◌∷◌, ltb, leb, eqb}
use Rattle.meaning.specs.Lists.{all, any, count, upto}
use Rattle.meaning.specs.Sketch.{packable}
use Rattle.meaning.specs.Trie.{Tree, leaf, inner, Children, none, child, byte_at, pages_in}

-- not an empty leaf
unfoldable pub filled : Tree → Bool
filled (leaf []) = false
filled (leaf (p ∷ ps)) = true
filled (inner cs) = true

-- the pages of `live` stand once each, and no other page stands
unfoldable pub Stands : (ℕ → Bool) → Tree → Type 0
Stands live t = (x : ℕ) → count (eqb x) (pages_in t) ≡ cond (live x) 1 0

-- the pages with one more, and with one less
abbrev pub with_page : ℕ → (ℕ → Bool) → ℕ → Bool
with_page p live x = cond (eqb x p) true (live x)

abbrev pub without_page : ℕ → (ℕ → Bool) → ℕ → Bool
without_page p live x = cond (eqb x p) false (live x)

-- two readings of the pages' bytes are the same on some pages
abbrev pub Agree : (ℕ → List ℕ) → (ℕ → List ℕ) → List ℕ → Type 0
Agree f g ps = (x : ℕ) → any (eqb x) ps ≡ true → f x ≡ g x

-- Over the packed bytes of each page, of n symbols of b bits; `len` is their packed length.
module _ (bytes_of : ℕ → List ℕ) (b n len : ℕ) where
  -- a page whose bytes are such that packing can give
  unfoldable pub packs : ℕ → Bool
  packs p = all (λ k. packable b n k (byte_at bytes_of k p)) (upto len)

  unfoldable mutual
    -- a node at level k: inner only below the packed length
    pub sound_trie : ℕ → Tree → Bool
    sound_trie k (leaf ps) = true
    sound_trie k (inner cs) = ltb k len && sound_from k 0 cs

    -- the children of a node at level k: rising bytes from lo on, such as packing can give, no empty leaf, each page below its byte
    pub sound_from : ℕ → ℕ → Children → Bool
    sound_from k lo none = true
    sound_from k lo (child c t cs) =
        leb lo c && (packable b n k c && (filled t && (all (λ p. eqb (byte_at bytes_of k p) c) (pages_in t)
        && (sound_trie (suc k) t && sound_from k (suc c) cs))))
