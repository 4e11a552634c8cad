-- How often the cells of a run of nodes claim a word: once, where the node that the word belongs to is in the run.
use Prim.Native.Nat.{ℕ, zero, suc, ◌+◌, ◌≤◌}
use native.Mathlib.Omega.{arith}
use native.Mathlib.Nat.{zero-add, suc-add}
use mathlib.Core.Path.{◌≡◌, refl}
use mathlib.Core.List.{List, [], ◌∷◌}
use mathlib.Core.Bool.{Bool, true, false, cond}
use lib.Dec.{eqb}
use borrow.Author.Tests.{eqb-true}
use Rattle.meaning.specs.Lists.{from}
use Rattle.children.specs.Heap.{hit, node_claims, page_claims}
use Rattle.children.specs.Phys.{Phys, leaf_p, free_cells}
use Rattle.children.proofs.Claims.{among, among-out, none-pages}
use Rattle.children.proofs.Owner.{owner, owned}
use Rattle.promises.specs.Sound.{tries_cells}

once : (k n a : ℕ) → among k n a ≤ 1
unfolding among hit
once k zero a = omega arith
once k (suc n) a = go (eqb k a) refl (once (suc k) n a)
  where
    go : (t : Bool) → eqb k a ≡ t → among (suc k) n a ≤ 1 → cond t 1 0 + among (suc k) n a ≤ 1
    go true e h = omega (arith, among-out (suc k) n a (λ q. absurd (omega (arith, eqb-true k a e))))
    go false e h = omega arith

-- two runs that meet are one
joined : (k m l n a : ℕ) → k + m ≡ l → among k (m + n) a ≡ among k m a + among l n a
unfolding among
joined k zero l n a e = let f : k ≡ l = omega arith in rw (zero-add n, f) (omega arith)
joined k (suc m) l n a e = rw (suc-add m n, joined (suc k) m l n a (omega arith)) (omega arith)

-- the roots j, j + 1, .. as fresh leaves
unfoldable pub roots : ℕ → ℕ → List Phys
roots j zero = []
roots j (suc n) = leaf_p j [] ∷ roots (suc j) n

module _ (N P : ℕ) where
  -- at most once for each time that the word's node is among them: a root's chain word is not the trie's
  tries-claims : (j n a : ℕ) → j + n ≤ N → node_claims (tries_cells N P j (roots j n)) a ≤ among j n (owner N a)
  unfolding roots among
  tries-claims j zero a h = omega arith
  tries-claims j (suc n) a h = omega (arith, owned N a j (omega arith), tries-claims (suc j) n a (omega arith))

  free-claims : (x n a : ℕ) → x + n ≤ N → node_claims (free_cells N (from x n)) a ≡ among x n (owner N a)
  unfolding from among
  free-claims x zero a h = refl
  free-claims x (suc n) a h = omega (arith, owned N a x (omega arith), free-claims (suc x) n a (omega arith))

  pub tries-pages : (j n a : ℕ) → page_claims (tries_cells N P j (roots j n)) a ≡ 0
  unfolding roots
  tries-pages j zero a = refl
  tries-pages j (suc n) a = omega (arith, none-pages N j a, tries-pages (suc j) n a)

  pub free-pages : (xs : List ℕ) (a : ℕ) → page_claims (free_cells N xs) a ≡ 0
  free-pages [] a = refl
  free-pages (x ∷ xs) a = omega (arith, none-pages N x a, free-pages xs a)

  -- the roots and the nodes past them together
  pub all-claims : (q n a : ℕ) → q + n ≡ N → node_claims (tries_cells N P 0 (roots 0 q)) a + node_claims (free_cells N (from q n)) a ≤ 1
  all-claims q n a e =
      omega (arith, tries-claims 0 q a (omega arith), free-claims q n a (omega arith), joined 0 q q n (owner N a) (zero-add q), once 0 (q + n) (owner N a))
