-- Children by their bytes, and what stands at the end of a path of bytes. A child is looked for among rising bytes.
use Rattle.std.specs.Prelude.{ℕ, zero, suc, Bool, true, false, cond, ◌&&◌, List, [], ◌∷◌, ltb, eqb}
use Rattle.meaning.specs.Trie.{Tree, leaf, inner, Children, none, child, fresh, byte_at}
use Rattle.trie_laws.specs.Sound.{filled}

-- a child with byte b
unfoldable pub has : ℕ → Children → Bool
has b none = false
has b (child c t cs) = cond (ltb c b) (has b cs) (eqb c b)

-- the child with byte b, where there is one
unfoldable pub child_by : ℕ → Children → Tree
child_by b none = fresh
child_by b (child c t cs) = cond (ltb c b) (child_by b cs) t

-- another in its stead
unfoldable pub set_child : ℕ → Tree → Children → Children
set_child b u none = none
set_child b u (child c t cs) = cond (ltb c b) (child c t (set_child b u cs)) (child c u cs)

-- without it
unfoldable pub drop_child : ℕ → Children → Children
drop_child b none = none
drop_child b (child c t cs) = cond (ltb c b) (child c t (drop_child b cs)) cs

-- a new child at its place, where there is none with its byte
unfoldable pub put_child : ℕ → Tree → Children → Children
put_child b u none = child b u none
put_child b u (child c t cs) = cond (ltb c b) (child c t (put_child b u cs)) (child b u (child c t cs))

-- a child changed: it goes where it is an empty leaf
unfoldable pub prune_child : ℕ → Tree → Children → Children
prune_child b u cs = cond (filled u) (set_child b u cs) (drop_child b cs)

-- the same at a node; a leaf has no children
unfoldable pub has_below : ℕ → Tree → Bool
has_below b (leaf ps) = false
has_below b (inner cs) = has b cs

unfoldable pub below : ℕ → Tree → Tree
below b (leaf ps) = leaf ps
below b (inner cs) = child_by b cs

unfoldable pub set_below : ℕ → Tree → Tree → Tree
set_below b u (leaf ps) = leaf ps
set_below b u (inner cs) = inner (set_child b u cs)

-- every child is a leaf
unfoldable pub is_leaf : Tree → Bool
is_leaf (leaf ps) = true
is_leaf (inner cs) = false

unfoldable pub leaves : Children → Bool
leaves none = true
leaves (child c t cs) = is_leaf t && leaves cs

-- a path of bytes is there
unfoldable pub has_path : List ℕ → Tree → Bool
has_path [] t = true
has_path (y ∷ ys) t = has_below y t && has_path ys (below y t)

-- what stands at its end
unfoldable pub subtree : List ℕ → Tree → Tree
subtree [] t = t
subtree (y ∷ ys) t = subtree ys (below y t)

-- the trie with another subtree there
unfoldable pub replace : List ℕ → Tree → Tree → Tree
replace [] t u = u
replace (y ∷ ys) t u = set_below y (replace ys (below y t) u) t

module _ (bytes_of : ℕ → List ℕ) where
  -- d bytes of a page, from level k on
  unfoldable pub path_of : ℕ → ℕ → ℕ → List ℕ
  path_of k p zero = []
  path_of k p (suc d) = byte_at bytes_of k p ∷ path_of (suc k) p d

  -- the bytes of a page from level k on begin so
  unfoldable pub follows : ℕ → List ℕ → ℕ → Bool
  follows k [] p = true
  follows k (y ∷ ys) p = eqb (byte_at bytes_of k p) y && follows (suc k) ys p

  unfoldable mutual
    -- how far down from a node at level k the page's bytes lead
    pub depth : ℕ → ℕ → Tree → ℕ
    depth k p (leaf ps) = 0
    depth k p (inner cs) = depth_in k p cs

    pub depth_in : ℕ → ℕ → Children → ℕ
    depth_in k p none = 0
    depth_in k p (child c t cs) =
        cond (ltb c (byte_at bytes_of k p)) (depth_in k p cs) (cond (eqb c (byte_at bytes_of k p)) (suc (depth (suc k) p t)) 0)
