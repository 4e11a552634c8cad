-- The nodes of a trie whose path is within a radius of the query's bytes.
use Rattle.std.specs.Prelude.{ℕ, suc, ◌+◌, ◌-◌, Bool, true, false, cond, ◌&&◌, List, [], ◌∷◌, ◌++◌, map, leb, eqb, length, take}
use Rattle.std.specs.Int.Bits.{bit_xor}
use Rattle.meaning.specs.Sketch.{byte_distance}
use Rattle.meaning.specs.Trie.{Tree, leaf, inner, Children, none, child}
use Rattle.sketch_laws.specs.Packed.{packed_distance}
use Rattle.children.specs.Phys.{Phys, Kids, leaf_p, inner_p, no_kid, kid}

unfoldable mutual
  -- their numbers, within r, in the order of the walk
  pub near : ℕ → ℕ → Phys → List ℕ → List ℕ
  near b r (leaf_p n ps) ys = n ∷ []
  near b r (inner_p n ks) ys = n ∷ near_k b r ks ys

  pub near_k : ℕ → ℕ → Kids → List ℕ → List ℕ
  near_k b r no_kid ys = []
  near_k b r (kid c t ks) [] = []
  near_k b r (kid c t ks) (y ∷ ys) =
      cond (leb (byte_distance b (bit_xor c y)) r) (near b (r - byte_distance b (bit_xor c y)) t ys) [] ++ near_k b r ks (y ∷ ys)

unfoldable mutual
  -- how many they are, in the abstract trie
  pub near_nodes : ℕ → ℕ → Tree → List ℕ → ℕ
  near_nodes b r (leaf ps) ys = 1
  near_nodes b r (inner cs) ys = suc (near_nodes_in b r cs ys)

  pub near_nodes_in : ℕ → ℕ → Children → List ℕ → ℕ
  near_nodes_in b r none ys = 0
  near_nodes_in b r (child c t cs) [] = 0
  near_nodes_in b r (child c t cs) (y ∷ ys) =
      cond (leb (byte_distance b (bit_xor c y)) r) (near_nodes b (r - byte_distance b (bit_xor c y)) t ys) 0 + near_nodes_in b r cs (y ∷ ys)

unfoldable mutual
  -- the path of each node, the root's first
  pub paths_in : Tree → List (List ℕ)
  paths_in (leaf ps) = [] ∷ []
  paths_in (inner cs) = [] ∷ paths_among cs

  pub paths_among : Children → List (List ℕ)
  paths_among none = []
  paths_among (child c t cs) = map (λ zs. c ∷ zs) (paths_in t) ++ paths_among cs

-- the path zs differs from the query's symbols on it in at most r
abbrev pub path_near : ℕ → ℕ → List ℕ → List ℕ → Bool
path_near b r ys zs = leb (packed_distance b zs (take (length zs) ys)) r

-- two paths are the same
unfoldable pub same_path : List ℕ → List ℕ → Bool
same_path [] [] = true
same_path [] (z ∷ zs) = false
same_path (y ∷ ys) [] = false
same_path (y ∷ ys) (z ∷ zs) = eqb y z && same_path ys zs
