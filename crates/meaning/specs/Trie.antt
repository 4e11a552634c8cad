-- The dynamic filter trie of one block (source document 000, section IV; document 01, "Trees").
-- Level 0 is the root. Children stand in rising byte, so equal tries are equal values.
use Rattle.std.specs.Prelude.{ℕ, suc, ◌+◌, ◌-◌, Bool, true, false, cond, ◌&&◌, List, [], ◌∷◌, ◌++◌, ltb, leb, eqb, length, get_or}
use Rattle.std.specs.Int.Bits.{bit_xor}
use Rattle.meaning.specs.Sketch.{byte_distance}

mutual
  -- a node: a leaf with its pages, or inner
  pub data Tree : Type 0 where
    leaf : List ℕ → Tree
    inner : Children → Tree

  -- the children of an inner node, each with its byte
  pub data Children : Type 0 where
    none : Children
    child : ℕ → Tree → Children → Children

-- at least one child
unfoldable pub has_child : Children → Bool
has_child none = false
has_child (child c t cs) = true

unfoldable mutual
  -- every inner node has a child
  pub pruned : Tree → Bool
  pruned (leaf ps) = true
  pruned (inner cs) = has_child cs && pruned_in cs

  pub pruned_in : Children → Bool
  pruned_in none = true
  pruned_in (child c t cs) = pruned t && pruned_in cs

-- a fresh trie
unfoldable pub fresh : Tree
fresh = leaf []

-- a list without one page
unfoldable pub without : ℕ → List ℕ → List ℕ
without p [] = []
without p (x ∷ xs) = cond (eqb x p) (without p xs) (x ∷ without p xs)

-- a page put first into a leaf
unfoldable pub push : ℕ → Tree → Tree
push p (leaf ps) = leaf (p ∷ ps)
push p (inner cs) = inner cs

-- a page put into the child leaf of a byte, which is made where it is missing
unfoldable pub put_leaf : ℕ → ℕ → Children → Children
put_leaf b p none = child b (leaf (p ∷ [])) none
put_leaf b p (child c t cs) =
    cond (ltb b c) (child b (leaf (p ∷ [])) (child c t cs))
    (cond (eqb b c) (child c (push p t) cs) (child c t (put_leaf b p cs)))

-- a child that is kept unless it is an empty leaf
unfoldable pub prune : ℕ → Tree → Children → Children
prune c (leaf []) cs = cs
prune c (leaf (p ∷ ps)) cs = child c (leaf (p ∷ ps)) cs
prune c (inner ds) cs = child c (inner ds) cs

-- an inner node that had the children cs and has ds: with its last child gone it is an empty leaf (document 02, F-2)
unfoldable pub shrunk : Children → Children → Tree
shrunk none ds = inner ds
shrunk (child c t cs) none = leaf []
shrunk (child c t cs) (child d u ds) = inner (child d u ds)

-- Over the packed bytes of each page in this block.
module _ (bytes_of : ℕ → List ℕ) where
  -- the byte of a page at level k
  unfoldable pub byte_at : ℕ → ℕ → ℕ
  byte_at k p = get_or (bytes_of p) k 0

  -- the pages of a list, each in turn put into the child leaf of its byte at level k
  unfoldable pub split : ℕ → List ℕ → Children → Children
  split k [] cs = cs
  split k (p ∷ ps) cs = split k ps (put_leaf (byte_at k p) p cs)

  unfoldable mutual
    -- a page taken out of the trie of a node at level k: an emptied leaf that is not the root goes, and then each inner node that loses its
    -- last child by this; a root so emptied is a leaf
    pub remove : ℕ → ℕ → Tree → Tree
    remove k p (leaf ps) = leaf (without p ps)
    remove k p (inner cs) = shrunk cs (remove_in k p cs)

    pub remove_in : ℕ → ℕ → Children → Children
    remove_in k p none = none
    remove_in k p (child c t cs) =
        cond (eqb (byte_at k p) c) (prune c (remove (suc k) p t) cs) (child c t (remove_in k p cs))

-- All pages' packed bytes are `len` long; `thresholds` are by level.
module _ (bytes_of : ℕ → List ℕ) (len : ℕ) (thresholds : List ℕ) where
  -- a page put into a leaf at level k, which becomes inner where it then has too many
  unfoldable pub add_leaf : ℕ → ℕ → List ℕ → Tree
  add_leaf k p ps =
      cond (ltb k len && ltb (get_or thresholds k 0) (length (p ∷ ps)))
      (inner (split bytes_of k (p ∷ ps) none))
      (leaf (p ∷ ps))

  unfoldable mutual
    -- a page put into the trie of a node at level k; a missing child is made, and at most one leaf becomes inner
    pub insert : ℕ → ℕ → Tree → Tree
    insert k p (leaf ps) = add_leaf k p ps
    insert k p (inner cs) = inner (insert_in k p cs)

    pub insert_in : ℕ → ℕ → Children → Children
    insert_in k p none = child (byte_at bytes_of k p) (add_leaf (suc k) p []) none
    insert_in k p (child c t cs) =
        cond (ltb (byte_at bytes_of k p) c) (child (byte_at bytes_of k p) (add_leaf (suc k) p []) (child c t cs))
        (cond (eqb (byte_at bytes_of k p) c) (child c (insert (suc k) p t) cs) (child c t (insert_in k p cs)))

unfoldable mutual
  -- the pages of a trie, leaf by leaf
  pub pages_in : Tree → List ℕ
  pages_in (leaf ps) = ps
  pages_in (inner cs) = pages_among cs

  pub pages_among : Children → List ℕ
  pages_among none = []
  pages_among (child c t cs) = pages_in t ++ pages_among cs

unfoldable mutual
  -- how many nodes a trie has
  pub nodes : Tree → ℕ
  nodes (leaf ps) = 1
  nodes (inner cs) = suc (nodes_in cs)

  pub nodes_in : Children → ℕ
  nodes_in none = 0
  nodes_in (child c t cs) = nodes t + nodes_in cs

unfoldable mutual
  -- the pages that a walk within r meets: those of the leaves whose path is within r of the query's bytes
  pub met : ℕ → ℕ → Tree → List ℕ → List ℕ
  met b r (leaf ps) ys = ps
  met b r (inner cs) ys = met_in b r cs ys

  pub met_in : ℕ → ℕ → Children → List ℕ → List ℕ
  met_in b r none ys = []
  met_in b r (child c t cs) [] = []
  met_in b r (child c t cs) (y ∷ ys) =
      cond (leb (byte_distance b (bit_xor c y)) r) (met b (r - byte_distance b (bit_xor c y)) t ys) [] ++ met_in b r cs (y ∷ ys)
