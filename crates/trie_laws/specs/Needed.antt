-- How many nodes an insertion makes, and how many a removal frees, counted along the page's path only.
use Rattle.std.specs.Prelude.{ℕ, suc, ◌+◌, Bool, false, cond, ◌&&◌, ◌||◌, List, [], ◌∷◌, map, ltb, eqb, length, get_or}
use Rattle.meaning.specs.Trie.{Tree, leaf, inner, Children, none, child, byte_at, remove}
use Rattle.trie_laws.specs.Sound.{filled}

-- how many different bytes a list has, besides those seen before
unfoldable pub distinct_from : (ℕ → Bool) → List ℕ → ℕ
distinct_from seen [] = 0
distinct_from seen (x ∷ xs) = cond (seen x) 0 1 + distinct_from (λ y. eqb y x || seen y) xs

-- how many different bytes occur at place k of the pages
unfoldable pub distinct : (ℕ → List ℕ) → ℕ → List ℕ → ℕ
distinct bytes_of k ps = distinct_from (λ y. false) (map (byte_at bytes_of k) ps)

-- a leaf at level k with this many pages becomes inner
unfoldable pub splits : ℕ → List ℕ → ℕ → ℕ → Bool
splits len thresholds k size = ltb k len && ltb (get_or thresholds k 0) size

module _ (bytes_of : ℕ → List ℕ) (len : ℕ) (thresholds : List ℕ) where
  -- the nodes that a leaf at level k gets with these pages: one for each byte where it splits
  unfoldable pub split_nodes : ℕ → List ℕ → ℕ
  split_nodes k ps = cond (splits len thresholds k (length ps)) (distinct bytes_of k ps) 0

  unfoldable mutual
    pub needed : ℕ → ℕ → Tree → ℕ
    needed k p (leaf ps) = split_nodes k (p ∷ ps)
    needed k p (inner cs) = needed_in k p cs

    pub needed_in : ℕ → ℕ → Children → ℕ
    needed_in k p none = suc (split_nodes (suc k) (p ∷ []))
    needed_in k p (child c t cs) =
        cond (ltb (byte_at bytes_of k p) c) (suc (split_nodes (suc k) (p ∷ [])))
        (cond (eqb (byte_at bytes_of k p) c) (needed (suc k) p t) (needed_in k p cs))

-- the nodes that a removal frees: a child that it leaves an empty leaf, and those below
module _ (bytes_of : ℕ → List ℕ) where
  unfoldable mutual
    pub frees : ℕ → ℕ → Tree → ℕ
    frees k p (leaf ps) = 0
    frees k p (inner cs) = frees_in k p cs

    pub frees_in : ℕ → ℕ → Children → ℕ
    frees_in k p none = 0
    frees_in k p (child c t cs) =
        cond (eqb (byte_at bytes_of k p) c) (cond (filled (remove bytes_of (suc k) p t)) (frees (suc k) p t) (suc (frees (suc k) p t))) (frees_in k p cs)

-- a number for each trie of blocks j, j + 1, .., together
unfoldable pub sum_from : (ℕ → Tree → ℕ) → ℕ → List Tree → ℕ
sum_from f j [] = 0
sum_from f j (t ∷ ts) = f j t + sum_from f (suc j) ts
