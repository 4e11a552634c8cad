-- Along a path of bytes: insertion and removal change what stands at its end.
use Prim.Native.Nat.{ℕ, zero, suc, ◌+◌}
use native.Mathlib.Omega.{arith}
use native.Mathlib.Nat.{add-zero}
use mathlib.Core.Path.{◌≡◌, refl, sym, ap, ◌∙◌}
use mathlib.Core.Bool.{true, false, false≢true}
use mathlib.Core.List.{List, [], ◌∷◌}
use Rattle.meaning.specs.Trie.{Tree, leaf, inner, Children, without, shrunk, byte_at, remove, insert, nodes}
use Rattle.trie_laws.specs.Sound.{filled}
use Rattle.trie_laws.specs.Needed.{split_nodes, needed}
use Rattle.trie_laws.specs.Path.{has, child_by, drop_child, prune_child, has_below, below, set_below, has_path, subtree, replace, path_of}
use Rattle.meaning.proofs.Lists.{and_first, and_second}
use Rattle.trie_laws.proofs.Children.{has-set, child-set, set-set, set_same, set-nodes, insert-there, needed-there, needed-gap, remove-there, shrunk-set}

-- ---- one step
module _ (y : ℕ) (u : Tree) where
  has-below : (t : Tree) → has_below y (set_below y u t) ≡ has_below y t
  unfolding has_below set_below
  has-below (leaf ps) = refl
  has-below (inner cs) = has-set y u cs

  below_set : (t : Tree) → has_below y t ≡ true → below y (set_below y u t) ≡ u
  unfolding has_below below set_below
  below_set (leaf ps) h = absurd (false≢true h)
  below_set (inner cs) h = child-set y u cs h

  set_below_lem : (v : Tree) (t : Tree) → set_below y u (set_below y v t) ≡ set_below y u t
  unfolding set_below
  set_below_lem v (leaf ps) = refl
  set_below_lem v (inner cs) = ap inner (set-set y u v cs)

  below-nodes : (t : Tree) → has_below y t ≡ true → nodes (set_below y u t) + nodes (below y t) ≡ nodes t + nodes u
  unfolding has_below below set_below nodes
  below-nodes (leaf ps) h = absurd (false≢true h)
  below-nodes (inner cs) h = omega (arith, set-nodes y u cs h)

  below-filled : (t : Tree) → has_below y t ≡ true → filled (set_below y u t) ≡ true
  unfolding has_below set_below filled
  below-filled (leaf ps) h = absurd (false≢true h)
  below-filled (inner cs) h = refl

below-same : (y : ℕ) (t : Tree) → set_below y (below y t) t ≡ t
unfolding below set_below
below-same y (leaf ps) = refl
below-same y (inner cs) = ap inner (set_same y cs)

pub path-parts : (y : ℕ) (ys : List ℕ) (t : Tree) → has_path (y ∷ ys) t ≡ true → (has_below y t ≡ true) × (has_path ys (below y t) ≡ true)
unfolding has_path
path-parts y ys t h = (and_first (has_below y t) (has_path ys (below y t)) h, and_second (has_below y t) (has_path ys (below y t)) h)

-- ---- a path: what is written at its end is read there
module _ (u : Tree) where
  pub path-replace : (ys : List ℕ) (t : Tree) → has_path ys t ≡ true → has_path ys (replace ys t u) ≡ true
  unfolding has_path replace
  path-replace [] t h = refl
  path-replace (y ∷ ys) t h =
      let i = path-parts y ys t h in
      let r : Tree = replace ys (below y t) u in
      rw (has-below y r t, i.0, below_set y r t i.0) (path-replace ys (below y t) i.1)

  pub subtree-replace : (ys : List ℕ) (t : Tree) → has_path ys t ≡ true → subtree ys (replace ys t u) ≡ u
  unfolding has_path subtree replace
  subtree-replace [] t h = refl
  subtree-replace (y ∷ ys) t h =
      let i = path-parts y ys t h in
      rw (below_set y (replace ys (below y t) u) t i.0) (subtree-replace ys (below y t) i.1)

  pub replace-replace : (v : Tree) (ys : List ℕ) (t : Tree) → has_path ys t ≡ true → replace ys (replace ys t v) u ≡ replace ys t u
  unfolding has_path replace
  replace-replace v [] t h = refl
  replace-replace v (y ∷ ys) t h =
      let i = path-parts y ys t h in
      let r : Tree = replace ys (below y t) v in
      rw (below_set y r t i.0, set_below_lem y (replace ys r u) r t)
      (ap (λ (x : Tree). set_below y x t) (replace-replace v ys (below y t) i.1))

  pub replace-nodes : (ys : List ℕ) (t : Tree) → has_path ys t ≡ true → nodes (replace ys t u) + nodes (subtree ys t) ≡ nodes t + nodes u
  unfolding has_path subtree replace
  replace-nodes [] t h = omega arith
  replace-nodes (y ∷ ys) t h =
      let i = path-parts y ys t h in
      omega (arith, below-nodes y (replace ys (below y t) u) t i.0, replace-nodes ys (below y t) i.1)

  -- an inner node stays inner
  pub replace-filled : (ys : List ℕ) (t : Tree) → has_path ys t ≡ true → filled u ≡ true → filled (replace ys t u) ≡ true
  unfolding has_path replace
  replace-filled [] t h f = f
  replace-filled (y ∷ ys) t h f = below-filled y (replace ys (below y t) u) t (path-parts y ys t h).0

pub replace-same : (ys : List ℕ) (t : Tree) → replace ys t (subtree ys t) ≡ t
unfolding subtree replace
replace-same [] t = refl
replace-same (y ∷ ys) t = ap (λ (x : Tree). set_below y x t) (replace-same ys (below y t)) ∙ below-same y t

-- ---- along the bytes of a page
pub shift : (k d : ℕ) → k + suc d ≡ suc k + d
shift k d = omega arith

module _ (bytes_of : ℕ → List ℕ) (len : ℕ) (thresholds : List ℕ) (p : ℕ) where
  insert-step : (k : ℕ) (t : Tree) → has_below (byte_at bytes_of k p) t ≡ true →
      insert bytes_of len thresholds k p t ≡ set_below (byte_at bytes_of k p) (insert bytes_of len thresholds (suc k) p (below (byte_at bytes_of k p) t)) t
  unfolding insert has_below below set_below
  insert-step k (leaf ps) h = absurd (false≢true h)
  insert-step k (inner cs) h = ap inner (insert-there bytes_of len thresholds k p cs h)

  -- an insertion is one at the end of a path of the page's bytes
  pub insert-path : (d k : ℕ) (t : Tree) → has_path (path_of bytes_of k p d) t ≡ true →
      insert bytes_of len thresholds k p t ≡
      replace (path_of bytes_of k p d) t (insert bytes_of len thresholds (k + d) p (subtree (path_of bytes_of k p d) t))
  unfolding path_of subtree replace
  insert-path zero k t h = ap (λ (i : ℕ). insert bytes_of len thresholds i p t) (sym (add-zero k))
  insert-path (suc d) k t h =
      let y : ℕ = byte_at bytes_of k p in
      let i = path-parts y (path_of bytes_of (suc k) p d) t h in
      rw (shift k d) (insert-step k t i.0 ∙ ap (λ (x : Tree). set_below y x t) (insert-path d (suc k) (below y t) i.1))

  needed-step : (k : ℕ) (t : Tree) → has_below (byte_at bytes_of k p) t ≡ true →
      needed bytes_of len thresholds k p t ≡ needed bytes_of len thresholds (suc k) p (below (byte_at bytes_of k p) t)
  unfolding needed has_below below
  needed-step k (leaf ps) h = absurd (false≢true h)
  needed-step k (inner cs) h = needed-there bytes_of len thresholds k p cs h

  pub needed-path : (d k : ℕ) (t : Tree) → has_path (path_of bytes_of k p d) t ≡ true →
      needed bytes_of len thresholds k p t ≡ needed bytes_of len thresholds (k + d) p (subtree (path_of bytes_of k p d) t)
  unfolding path_of subtree
  needed-path zero k t h = ap (λ (i : ℕ). needed bytes_of len thresholds i p t) (sym (add-zero k))
  needed-path (suc d) k t h =
      let i = path-parts (byte_at bytes_of k p) (path_of bytes_of (suc k) p d) t h in
      rw (shift k d) (needed-step k t i.0 ∙ needed-path d (suc k) (below (byte_at bytes_of k p) t) i.1)

  module _ (d k : ℕ) (t : Tree) (h : has_path (path_of bytes_of k p d) t ≡ true) where
    pub needed-at-leaf : (ps : List ℕ) → subtree (path_of bytes_of k p d) t ≡ leaf ps →
        needed bytes_of len thresholds k p t ≡ split_nodes bytes_of len thresholds (k + d) (p ∷ ps)
    unfolding needed
    needed-at-leaf ps e = needed-path d k t h ∙ rw e refl

    pub needed-at-gap : (cs : Children) → subtree (path_of bytes_of k p d) t ≡ inner cs → has (byte_at bytes_of (k + d) p) cs ≡ false →
        needed bytes_of len thresholds k p t ≡ suc (split_nodes bytes_of len thresholds (suc (k + d)) (p ∷ []))
    unfolding needed
    needed-at-gap cs e g = needed-path d k t h ∙ rw e (needed-gap bytes_of len thresholds (k + d) p cs g)

module _ (bytes_of : ℕ → List ℕ) (p : ℕ) where
  remove-step : (k : ℕ) (t : Tree) → has_below (byte_at bytes_of k p) t ≡ true → filled (remove bytes_of (suc k) p (below (byte_at bytes_of k p) t)) ≡ true →
      remove bytes_of k p t ≡ set_below (byte_at bytes_of k p) (remove bytes_of (suc k) p (below (byte_at bytes_of k p) t)) t
  unfolding remove has_below below set_below prune_child
  remove-step k (leaf ps) h f = absurd (false≢true h)
  remove-step k (inner cs) h f =
      let y : ℕ = byte_at bytes_of k p in
      ap (shrunk cs) (remove-there bytes_of k p cs h ∙ rw f refl) ∙ shrunk-set y (remove bytes_of (suc k) p (child_by y cs)) cs

  -- a child that is left an empty leaf goes
  pub remove-emptied : (k : ℕ) (cs : Children) → has (byte_at bytes_of k p) cs ≡ true → remove bytes_of (suc k) p (child_by (byte_at bytes_of k p) cs) ≡ leaf [] →
      remove bytes_of k p (inner cs) ≡ shrunk cs (drop_child (byte_at bytes_of k p) cs)
  unfolding remove prune_child filled
  remove-emptied k cs h e = ap (shrunk cs) (remove-there bytes_of k p cs h ∙ rw e refl)

  -- a removal is one at the end of a path of the page's bytes, where no empty leaf is left there
  pub remove-path : (d k : ℕ) (t : Tree) → has_path (path_of bytes_of k p d) t ≡ true →
      filled (remove bytes_of (k + d) p (subtree (path_of bytes_of k p d) t)) ≡ true →
      remove bytes_of k p t ≡ replace (path_of bytes_of k p d) t (remove bytes_of (k + d) p (subtree (path_of bytes_of k p d) t))
  unfolding path_of subtree replace
  remove-path zero k t h f = ap (λ (i : ℕ). remove bytes_of i p t) (sym (add-zero k))
  remove-path (suc d) k t h f =
      let y : ℕ = byte_at bytes_of k p in
      let ys : List ℕ = path_of bytes_of (suc k) p d in
      let i = path-parts y ys t h in
      let g : filled (remove bytes_of (suc k + d) p (subtree ys (below y t))) ≡ true = rw (shift k d) at f in
      let e = remove-path d (suc k) (below y t) i.1 g in
      rw (shift k d) (remove-step k t i.0 (rw e (replace-filled (remove bytes_of (suc k + d) p (subtree ys (below y t))) ys (below y t) i.1 g))
      ∙ ap (λ (x : Tree). set_below y x t) e)

  -- a leaf there that keeps a page; an inner node there that stays inner
  module _ (d k : ℕ) (t : Tree) (h : has_path (path_of bytes_of k p d) t ≡ true) where
    pub remove-at-leaf : (ps : List ℕ) → subtree (path_of bytes_of k p d) t ≡ leaf ps → filled (leaf (without p ps)) ≡ true →
        remove bytes_of k p t ≡ replace (path_of bytes_of k p d) t (leaf (without p ps))
    unfolding remove
    remove-at-leaf ps e f = remove-path d k t h (rw e f) ∙ rw e refl

    pub remove-at-inner : (cs ds : Children) → subtree (path_of bytes_of k p d) t ≡ inner cs → remove bytes_of (k + d) p (inner cs) ≡ inner ds →
        remove bytes_of k p t ≡ replace (path_of bytes_of k p d) t (inner ds)
    unfolding filled
    remove-at-inner cs ds e f = remove-path d k t h (rw (e, f) refl) ∙ rw (e, f) refl
