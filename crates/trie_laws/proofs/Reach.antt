-- Where a page's bytes lead in a sound trie: to the leaf that the page stands in, or past it.
use Prim.Native.Nat.{ℕ, zero, suc, ◌+◌, ◌≤◌, ◌<◌}
use native.Mathlib.Omega.{arith}
use native.Mathlib.Nat.{add-zero}
use mathlib.Core.Path.{◌≡◌, refl, sym, ap, ◌∙◌}
use mathlib.Core.Bool.{Bool, true, false, cond, ◌&&◌, true≢false, false≢true}
use mathlib.Core.List.{List, [], ◌∷◌}
use lib.Dec.{ltb, eqb}
use lib.ListN.{length}
use borrow.Author.Tests.{eqb-true, eq-eqb, ltb-true, ltb-false, ne_eqb}
use Rattle.meaning.specs.Lists.{all, any, count}
use Rattle.meaning.specs.Trie.{Tree, leaf, inner, Children, none, child, fresh, byte_at, nodes, nodes_in, pages_in, pages_among}
use Rattle.trie_laws.specs.Sound.{filled, sound_trie, sound_from}
use Rattle.trie_laws.specs.Path.{has, child_by, has_below, below, has_path, subtree, path_of, follows, depth, depth_in}
use Rattle.meaning.proofs.Lists.{and_intro, and_first, and_second, any_append, count-append, all_append, eqb_comm}
use Rattle.trie_laws.proofs.Lists.{holds, fails, truth, any-count, any_none, all_both, all_true}
use Rattle.trie_laws.proofs.Sound.{SoundBelow, inner-parts, child-parts}
use Rattle.trie_laws.proofs.Pages.{off_byte, off-bytes}
use Rattle.trie_laws.proofs.Children.{drop-nodes, drop-count, child-sound}
use Rattle.trie_laws.proofs.Path.{path-parts, shift}

-- ---- the longest path of a page's bytes
module _ (bytes_of : ℕ → List ℕ) (p : ℕ) where
  pub depth-child : (k : ℕ) (cs : Children) → depth_in bytes_of k p cs ≡
      cond (has (byte_at bytes_of k p) cs) (suc (depth bytes_of (suc k) p (child_by (byte_at bytes_of k p) cs))) 0
  unfolding depth has child_by
  depth-child k none = refl
  depth-child k (child c t cs) = elim (truth (ltb c (byte_at bytes_of k p))) [
    | holds e ↦ rw e (depth-child k cs)
    | fails e ↦ rw e refl
  ]

  -- the path is there, and goes no further
  Ends : ℕ → Tree → Type 0
  Ends k t =
      (has_path (path_of bytes_of k p (depth bytes_of k p t)) t ≡ true)
      × (has_below (byte_at bytes_of (k + depth bytes_of k p t) p) (subtree (path_of bytes_of k p (depth bytes_of k p t)) t) ≡ false)

  ends-leaf : (k : ℕ) (ps : List ℕ) → Ends k (leaf ps)
  unfolding Ends has_path subtree path_of depth has_below
  ends-leaf k ps = (refl, refl)

  ends-inner : (k : ℕ) (cs : Children) → Ends (suc k) (child_by (byte_at bytes_of k p) cs) → Ends k (inner cs)
  unfolding Ends has_path subtree path_of depth has_below below
  ends-inner k cs i = elim (truth (has (byte_at bytes_of k p) cs)) [
    | holds e ↦
        rw (depth-child k cs, e, shift k (depth bytes_of (suc k) p (child_by (byte_at bytes_of k p) cs)))
        (and_intro (has (byte_at bytes_of k p) cs) (has_path (path_of bytes_of (suc k) p (depth bytes_of (suc k) p (child_by (byte_at bytes_of k p) cs))) (child_by (byte_at bytes_of k p) cs)) e i.0, i.1)
    | fails e ↦ rw (depth-child k cs, e) (refl, rw (add-zero k) e)
  ]

  mutual
    unfolding child_by fresh

    depth-ends : (k : ℕ) (t : Tree) → Ends k t
    depth-ends k (leaf ps) = ends-leaf k ps
    depth-ends k (inner cs) = ends-inner k cs (child-ends k cs)

    child-ends : (k : ℕ) (cs : Children) → Ends (suc k) (child_by (byte_at bytes_of k p) cs)
    child-ends k none = ends-leaf (suc k) []
    child-ends k (child c t cs) = elim (truth (ltb c (byte_at bytes_of k p))) [
      | holds e ↦ rw e (child-ends k cs)
      | fails e ↦ rw e (depth-ends (suc k) t)
    ]

  pub depth-path : (k : ℕ) (t : Tree) → has_path (path_of bytes_of k p (depth bytes_of k p t)) t ≡ true
  unfolding Ends
  depth-path k t = (depth-ends k t).0

  pub depth-end : (k : ℕ) (t : Tree) →
      has_below (byte_at bytes_of (k + depth bytes_of k p t) p) (subtree (path_of bytes_of k p (depth bytes_of k p t)) t) ≡ false
  unfolding Ends
  depth-end k t = (depth-ends k t).1

-- ---- a list of bytes that a page begins with is a path of the page's bytes
module _ (bytes_of : ℕ → List ℕ) where
  pub follows-path : (k p : ℕ) (ys : List ℕ) → follows bytes_of k ys p ≡ true → ys ≡ path_of bytes_of k p (length ys)
  unfolding follows path_of
  follows-path k p [] h = refl
  follows-path k p (y ∷ ys) h =
      rw (← (eqb-true (byte_at bytes_of k p) y (and_first (eqb (byte_at bytes_of k p) y) (follows bytes_of (suc k) ys p) h)))
      (ap (λ (zs : List ℕ). byte_at bytes_of k p ∷ zs) (follows-path (suc k) p ys (and_second (eqb (byte_at bytes_of k p) y) (follows bytes_of (suc k) ys p) h)))

  pub path-follows : (k p d : ℕ) → follows bytes_of k (path_of bytes_of k p d) p ≡ true
  unfolding follows path_of
  path-follows k p zero = refl
  path-follows k p (suc d) =
      and_intro (eqb (byte_at bytes_of k p) (byte_at bytes_of k p)) (follows bytes_of (suc k) (path_of bytes_of (suc k) p d) p)
      (eq-eqb (byte_at bytes_of k p) (byte_at bytes_of k p) refl) (path-follows (suc k) p d)

  pub path-length : (k p d : ℕ) → length (path_of bytes_of k p d) ≡ d
  unfolding path_of
  path-length k p zero = refl
  path-length k p (suc d) = ap suc (path-length (suc k) p d)

-- ---- what holds of all pages holds of those below a path
module _ (q : ℕ → Bool) where
  child-all : (y : ℕ) (cs : Children) → all q (pages_among cs) ≡ true → all q (pages_in (child_by y cs)) ≡ true
  unfolding child_by fresh pages_in all
  child-all y none h = refl
  child-all y (child c t cs) h =
      let i : all q (pages_in t) && all q (pages_among cs) ≡ true = sym (all_append q (pages_in t) (pages_among cs)) ∙ h in
      elim (truth (ltb c y)) [
        | holds e ↦ rw e (child-all y cs (and_second (all q (pages_in t)) (all q (pages_among cs)) i))
        | fails e ↦ rw e (and_first (all q (pages_in t)) (all q (pages_among cs)) i)
      ]

  below_all : (y : ℕ) (t : Tree) → all q (pages_in t) ≡ true → all q (pages_in (below y t)) ≡ true
  unfolding below pages_in
  below_all y (leaf ps) h = h
  below_all y (inner cs) h = child-all y cs h

  pub subtree-all : (ys : List ℕ) (t : Tree) → all q (pages_in t) ≡ true → all q (pages_in (subtree ys t)) ≡ true
  unfolding subtree
  subtree-all [] t h = h
  subtree-all (y ∷ ys) t h = subtree-all ys (below y t) (below_all y t h)

-- ---- a subtree has no more nodes, and no more pages
child-nodes : (y : ℕ) (cs : Children) → has y cs ≡ true → nodes (child_by y cs) ≤ nodes_in cs
child-nodes y cs h = omega (arith, drop-nodes y cs h)

below-nodes : (y : ℕ) (t : Tree) → has_below y t ≡ true → suc (nodes (below y t)) ≤ nodes t
unfolding has_below below nodes
below-nodes y (leaf ps) h = absurd (false≢true h)
below-nodes y (inner cs) h = omega (arith, child-nodes y cs h)

pub subtree-nodes : (ys : List ℕ) (t : Tree) → has_path ys t ≡ true → length ys + nodes (subtree ys t) ≤ nodes t
unfolding subtree
subtree-nodes [] t h = omega arith
subtree-nodes (y ∷ ys) t h =
    let i = path-parts y ys t h in
    omega (arith, below-nodes y t i.0, subtree-nodes ys (below y t) i.1)

below-count : (q : ℕ → Bool) (y : ℕ) (t : Tree) → has_below y t ≡ true → count q (pages_in (below y t)) ≤ count q (pages_in t)
unfolding has_below below pages_in
below-count q y (leaf ps) h = absurd (false≢true h)
below-count q y (inner cs) h = omega (arith, drop-count y q cs h)

pub subtree-count : (q : ℕ → Bool) (ys : List ℕ) (t : Tree) → has_path ys t ≡ true → count q (pages_in (subtree ys t)) ≤ count q (pages_in t)
unfolding subtree
subtree-count q [] t h = omega arith
subtree-count q (y ∷ ys) t h =
    let i = path-parts y ys t h in
    omega (arith, below-count q y t i.0, subtree-count q ys (below y t) i.1)

-- ---- in a sound trie
module _ (bytes_of : ℕ → List ℕ) (b n len : ℕ) where
  below-sound : (k y : ℕ) (t : Tree) → sound_trie bytes_of b n len k t ≡ true → has_below y t ≡ true → SoundBelow bytes_of b n len k y (below y t)
  unfolding has_below below
  below-sound k y (leaf ps) h e = absurd (false≢true e)
  below-sound k y (inner cs) h e = child-sound bytes_of b n len k 0 y cs (inner-parts bytes_of b n len k cs h).children_b e

  below-level : (k y : ℕ) (t : Tree) → sound_trie bytes_of b n len k t ≡ true → has_below y t ≡ true → k < len
  unfolding has_below
  below-level k y (leaf ps) h e = absurd (false≢true e)
  below-level k y (inner cs) h e = (inner-parts bytes_of b n len k cs h).level

  -- the subtree is sound
  pub subtree-sound : (k : ℕ) (ys : List ℕ) (t : Tree) → sound_trie bytes_of b n len k t ≡ true → has_path ys t ≡ true →
      sound_trie bytes_of b n len (k + length ys) (subtree ys t) ≡ true
  unfolding subtree
  subtree-sound k [] t h e = rw (add-zero k) h
  subtree-sound k (y ∷ ys) t h e =
      let i = path-parts y ys t e in
      rw (shift k (length ys)) (subtree-sound (suc k) ys (below y t) (below-sound k y t h i.0).sub i.1)

  -- and no empty leaf, unless the trie is one
  pub subtree-filled : (k : ℕ) (ys : List ℕ) (t : Tree) → sound_trie bytes_of b n len k t ≡ true → has_path ys t ≡ true → filled t ≡ true →
      filled (subtree ys t) ≡ true
  unfolding subtree
  subtree-filled k [] t h e f = f
  subtree-filled k (y ∷ ys) t h e f =
      let i = path-parts y ys t e in
      let s = below-sound k y t h i.0 in
      subtree-filled (suc k) ys (below y t) s.sub i.1 s.full

  -- each of its pages begins with the path's bytes
  pub subtree-follows : (k : ℕ) (ys : List ℕ) (t : Tree) → sound_trie bytes_of b n len k t ≡ true → has_path ys t ≡ true →
      all (follows bytes_of k ys) (pages_in (subtree ys t)) ≡ true
  unfolding subtree follows
  subtree-follows k [] t h e = all_true (λ x. true) (pages_in t) (λ x. refl)
  subtree-follows k (y ∷ ys) t h e =
      let i = path-parts y ys t e in
      let s = below-sound k y t h i.0 in
      all_both (λ x. eqb (byte_at bytes_of k x) y) (follows bytes_of (suc k) ys) (pages_in (subtree ys (below y t)))
      (subtree-all (λ x. eqb (byte_at bytes_of k x) y) ys (below y t) s.path)
      (subtree-follows (suc k) ys (below y t) s.sub i.1)

  -- a path is at most as long as the packed bytes
  pub path-short : (k : ℕ) (ys : List ℕ) (t : Tree) → sound_trie bytes_of b n len k t ≡ true → has_path ys t ≡ true → k ≤ len → k + length ys ≤ len
  path-short k [] t h e l = omega arith
  path-short k (y ∷ ys) t h e l =
      let i = path-parts y ys t e in
      omega (arith, path-short (suc k) ys (below y t) (below-sound k y t h i.0).sub i.1 (below-level k y t h i.0))

  -- a page stands nowhere but on its path: where the path goes on it stands below, and where it ends at a gap it does not stand
  module _ (p : ℕ) where
    child-times : (k lo : ℕ) (cs : Children) → sound_from bytes_of b n len k lo cs ≡ true → has (byte_at bytes_of k p) cs ≡ true →
        count (eqb p) (pages_among cs) ≡ count (eqb p) (pages_in (child_by (byte_at bytes_of k p) cs))
    unfolding has child_by pages_in
    child-times k lo none h e = absurd (false≢true e)
    child-times k lo (child c t cs) h e =
        let y : ℕ = byte_at bytes_of k p in
        let s = child-parts bytes_of b n len k lo c t cs h in
        elim (truth (ltb c y)) [
          | holds l ↦
              let m : c < y = ltb-true c y l in
              simp (l, count-append)
              (omega (
                arith,
                child-times k (suc c) cs s.rest (rw l at e),
                any_none (eqb p) (pages_in t) (off_byte bytes_of k p c (pages_in t) s.here.path (ne_eqb y c (omega arith))),
              ))
          | fails l ↦
              simp (l, count-append)
              (omega (
                arith,
                any_none (eqb p) (pages_among cs)
                    (off-bytes bytes_of b n len k p (suc c) cs s.rest (omega (arith, eqb-true c y (rw l at e)))),
              ))
        ]

    pub gap-any : (k lo : ℕ) (cs : Children) → sound_from bytes_of b n len k lo cs ≡ true → has (byte_at bytes_of k p) cs ≡ false →
        any (eqb p) (pages_among cs) ≡ false
    unfolding has pages_in any
    gap-any k lo none h e = refl
    gap-any k lo (child c t cs) h e =
        let y : ℕ = byte_at bytes_of k p in
        let s = child-parts bytes_of b n len k lo c t cs h in
        elim (truth (ltb c y)) [
          | holds l ↦
              let m : c < y = ltb-true c y l in
              rw (any_append (eqb p) (pages_in t) (pages_among cs), off_byte bytes_of k p c (pages_in t) s.here.path (ne_eqb y c (omega arith)))
              (gap-any k (suc c) cs s.rest (rw l at e))
          | fails l ↦
              let m : y ≤ c = ltb-false c y l in
              rw (any_append (eqb p) (pages_in t) (pages_among cs), off_byte bytes_of k p c (pages_in t) s.here.path (eqb_comm y c ∙ (rw l at e)))
              (off-bytes bytes_of b n len k p (suc c) cs s.rest (omega arith))
        ]

    below-times : (k : ℕ) (t : Tree) → sound_trie bytes_of b n len k t ≡ true → has_below (byte_at bytes_of k p) t ≡ true →
        count (eqb p) (pages_in t) ≡ count (eqb p) (pages_in (below (byte_at bytes_of k p) t))
    unfolding has_below below pages_in
    below-times k (leaf ps) h e = absurd (false≢true e)
    below-times k (inner cs) h e = child-times k 0 cs (inner-parts bytes_of b n len k cs h).children_b e

    pub path-times : (d k : ℕ) (t : Tree) → sound_trie bytes_of b n len k t ≡ true → has_path (path_of bytes_of k p d) t ≡ true →
        count (eqb p) (pages_in t) ≡ count (eqb p) (pages_in (subtree (path_of bytes_of k p d) t))
    unfolding path_of subtree
    path-times zero k t h e = refl
    path-times (suc d) k t h e =
        let y : ℕ = byte_at bytes_of k p in
        let i = path-parts y (path_of bytes_of (suc k) p d) t e in
        below-times k t h i.0 ∙ path-times d (suc k) (below y t) (below-sound k y t h i.0).sub i.1

    pub path-any : (d k : ℕ) (t : Tree) → sound_trie bytes_of b n len k t ≡ true → has_path (path_of bytes_of k p d) t ≡ true →
        any (eqb p) (pages_in t) ≡ any (eqb p) (pages_in (subtree (path_of bytes_of k p d) t))
    path-any d k t h e =
        any-count (eqb p) (pages_in t)
        ∙ ap (ltb 0) (path-times d k t h e)
        ∙ sym (any-count (eqb p) (pages_in (subtree (path_of bytes_of k p d) t)))

    -- a page that stands in the trie stands in the leaf where its bytes lead
    pub end-leaf : (j : ℕ) (u : Tree) → sound_trie bytes_of b n len j u ≡ true → has_below (byte_at bytes_of j p) u ≡ false → any (eqb p) (pages_in u) ≡ true →
        (ps : List ℕ) × (u ≡ leaf ps) × (any (eqb p) ps ≡ true)
    unfolding has_below pages_in
    end-leaf j (leaf ps) h g m = (ps, refl, m)
    end-leaf j (inner cs) h g m = absurd (true≢false (sym m ∙ gap-any j 0 cs (inner-parts bytes_of b n len j cs h).children_b g))

    pub reach-leaf : (k : ℕ) (t : Tree) → sound_trie bytes_of b n len k t ≡ true → any (eqb p) (pages_in t) ≡ true →
        (ps : List ℕ) × (subtree (path_of bytes_of k p (depth bytes_of k p t)) t ≡ leaf ps) × (any (eqb p) ps ≡ true)
    reach-leaf k t h m =
        let d : ℕ = depth bytes_of k p t in
        let ys : List ℕ = path_of bytes_of k p d in
        let i : has_path ys t ≡ true = depth-path bytes_of p k t in
        end-leaf (k + d) (subtree ys t) (rw (path-length bytes_of k p d) at (subtree-sound k ys t h i)) (depth-end bytes_of p k t) (sym (path-any d k t h i) ∙ m)
