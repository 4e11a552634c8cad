-- The path of a page's bytes, one byte longer; and where it ends.
use Prim.Native.Nat.{ℕ, zero, suc, ◌+◌}
use native.Mathlib.Nat.{add-zero}
use mathlib.Core.Path.{◌≡◌, refl, ap, ◌∙◌}
use mathlib.Core.Bool.{true, false, cond}
use mathlib.Core.List.{List}
use Rattle.meaning.specs.Trie.{Tree, leaf, inner, byte_at}
use Rattle.trie_laws.specs.Path.{has_below, below, set_below, has_path, subtree, replace, path_of, depth}
use Rattle.meaning.proofs.Lists.{and_intro}
use Rattle.trie_laws.proofs.Path.{path-parts, shift}
use Rattle.trie_laws.proofs.Reach.{depth-child}

module _ (bytes_of : ℕ → List ℕ) (p : ℕ) where
  -- one byte longer
  pub path-next : (d k : ℕ) (t : Tree) → has_path (path_of bytes_of k p d) t ≡ true → has_below (byte_at bytes_of (k + d) p) (subtree (path_of bytes_of k p d) t) ≡ true →
      has_path (path_of bytes_of k p (suc d)) t ≡ true
  unfolding has_path subtree path_of
  path-next zero k t h i = and_intro (has_below (byte_at bytes_of k p) t) true (rw (add-zero k) at i) refl
  path-next (suc d) k t h i =
      let y : ℕ = byte_at bytes_of k p in
      let q = path-parts y (path_of bytes_of (suc k) p d) t h in
      and_intro (has_below y t) (has_path (path_of bytes_of (suc k) p (suc d)) (below y t)) q.0 (path-next d (suc k) (below y t) q.1 (rw (shift k d) at i))

  pub sub-next : (d k : ℕ) (t : Tree) → subtree (path_of bytes_of k p (suc d)) t ≡ below (byte_at bytes_of (k + d) p) (subtree (path_of bytes_of k p d) t)
  unfolding subtree path_of
  sub-next zero k t = rw (add-zero k) refl
  sub-next (suc d) k t = rw (shift k d) (sub-next d (suc k) (below (byte_at bytes_of k p) t))

  pub rep_next : (d k : ℕ) (t u : Tree) →
      replace (path_of bytes_of k p (suc d)) t u ≡ replace (path_of bytes_of k p d) t (set_below (byte_at bytes_of (k + d) p) u (subtree (path_of bytes_of k p d) t))
  unfolding subtree replace path_of
  rep_next zero k t u = rw (add-zero k) refl
  rep_next (suc d) k t u =
      let y : ℕ = byte_at bytes_of k p in
      rw (shift k d) (ap (λ (x : Tree). set_below y x t) (rep_next d (suc k) (below y t) u))

  -- no longer
  depth_below : (k : ℕ) (t : Tree) → depth bytes_of k p t ≡ cond (has_below (byte_at bytes_of k p) t) (suc (depth bytes_of (suc k) p (below (byte_at bytes_of k p) t))) 0
  unfolding depth has_below below
  depth_below k (leaf ps) = refl
  depth_below k (inner cs) = depth-child bytes_of p k cs

  pub path-depth : (d k : ℕ) (t : Tree) → has_path (path_of bytes_of k p d) t ≡ true → has_below (byte_at bytes_of (k + d) p) (subtree (path_of bytes_of k p d) t) ≡ false →
      depth bytes_of k p t ≡ d
  unfolding subtree path_of
  path-depth zero k t h i = depth_below k t ∙ rw (rw (add-zero k) at i) refl
  path-depth (suc d) k t h i =
      let y : ℕ = byte_at bytes_of k p in
      let q = path-parts y (path_of bytes_of (suc k) p d) t h in
      depth_below k t ∙ rw q.0 (ap suc (path-depth d (suc k) (below y t) q.1 (rw (shift k d) at i)))
