-- A page put in and taken out again: the other pages are as before, and unless a leaf with pages splits so is the trie.
-- A page taken out and put in again: the same pages stand.
use Prim.Native.Nat.{ℕ, suc, ◌+◌}
use native.Mathlib.Nat.{zero-add}
use mathlib.Core.Path.{◌≡◌, refl, sym, ap, ◌∙◌}
use mathlib.Core.Bool.{Bool, true, false, not, ◌&&◌, true≢false}
use mathlib.Core.List.{List, [], ◌∷◌}
use lib.Dec.{eqb}
use lib.ListN.{length}
use borrow.Author.Tests.{eq-eqb, eqb-true}
use Rattle.meaning.specs.Lists.{all, any, count}
use Rattle.meaning.specs.Trie.{Tree, leaf, inner, Children, none, child, without, put_leaf, prune, shrunk, byte_at, split, remove, add_leaf, insert, pages_in}
use Rattle.trie_laws.specs.Sound.{filled, packs, sound_trie, Stands, without_page}
use Rattle.trie_laws.specs.Needed.{splits}
use Rattle.trie_laws.specs.Path.{put_child, has_below, has_path, subtree, replace, path_of, depth}
use Rattle.meaning.proofs.Lists.{eqb_comm}
use Rattle.trie_laws.proofs.Lists.{holds, fails, truth, or-none}
use Rattle.trie_laws.proofs.Leaf.{add-splits, add-stays}
use Rattle.trie_laws.proofs.Pages.{stands-any, insert-count, remove-count, absent-count, insert-stands, remove-stands}
use Rattle.trie_laws.proofs.Keeps.{insert-sound}
use Rattle.trie_laws.proofs.Children.{has-put, child-put, drop-put, insert-gap, shrunk-some}
use Rattle.trie_laws.proofs.Path.{path-replace, subtree-replace, replace-replace, replace-same, insert-path, remove-emptied, remove-path}
use Rattle.trie_laws.proofs.Reach.{depth-path, depth-end, subtree-filled, path-any}

without-absent : (p : ℕ) (xs : List ℕ) → any (eqb p) xs ≡ false → without p xs ≡ xs
unfolding without any
without-absent p [] h = refl
without-absent p (x ∷ xs) h =
    let o = or-none (eqb p x) (any (eqb p) xs) h in
    rw (eqb_comm x p, o.0) (ap (λ (ys : List ℕ). x ∷ ys) (without-absent p xs o.1))

empty_leaf : (t : Tree) → filled t ≡ false → t ≡ leaf []
unfolding filled
empty_leaf (leaf []) f = refl
empty_leaf (leaf (p ∷ ps)) f = absurd (true≢false f)
empty_leaf (inner cs) f = absurd (true≢false f)

module _ (bytes_of : ℕ → List ℕ) (b n len : ℕ) (thresholds : List ℕ) (p : ℕ) where
  pub back_count : (q : ℕ → Bool) (k : ℕ) (t : Tree) → packs bytes_of b n len p ≡ true → all (packs bytes_of b n len) (pages_in t) ≡ true →
      sound_trie bytes_of b n len k t ≡ true → any (eqb p) (pages_in t) ≡ false →
      count q (pages_in (remove bytes_of k p (insert bytes_of len thresholds k p t))) ≡ count q (pages_in t)
  back_count q k t e f h a =
      remove-count bytes_of b n len q k p (insert bytes_of len thresholds k p t) (insert-sound bytes_of b n len thresholds k p t e f h)
      ∙ insert-count (λ x. not (eqb x p) && q x) bytes_of len thresholds k p t
      ∙ rw (eq-eqb p p refl) (zero-add (count (λ x. not (eqb x p) && q x) (pages_in t)) ∙ sym (absent-count q p (pages_in t) a))

  pub back-stands : (live : ℕ → Bool) (k : ℕ) (t : Tree) → packs bytes_of b n len p ≡ true → all (packs bytes_of b n len) (pages_in t) ≡ true →
      sound_trie bytes_of b n len k t ≡ true → Stands live t → live p ≡ false →
      Stands live (remove bytes_of k p (insert bytes_of len thresholds k p t))
  unfolding Stands
  back-stands live k t e f h s a x = back_count (eqb x) k t e f h (stands-any live t s p ∙ a) ∙ s x

  -- ---- the trie itself: at the end of the page's path
  back-empty : (k : ℕ) → remove bytes_of k p (add_leaf bytes_of len thresholds k p []) ≡ leaf []
  unfolding remove without split put_leaf prune shrunk
  back-empty k = elim (truth (splits len thresholds k 1)) [
    | holds e ↦ rw (add-splits bytes_of len thresholds k p [] e, eq-eqb (byte_at bytes_of k p) (byte_at bytes_of k p) refl, eq-eqb p p refl) refl
    | fails e ↦ rw (add-stays bytes_of len thresholds k p [] e, eq-eqb p p refl) refl
  ]

  back_end : (k : ℕ) (u : Tree) → has_below (byte_at bytes_of k p) u ≡ false → (u ≡ inner none → ⊥) → any (eqb p) (pages_in u) ≡ false →
      ((x : ℕ) (xs : List ℕ) → u ≡ leaf (x ∷ xs) → splits len thresholds k (length (p ∷ x ∷ xs)) ≡ false) →
      remove bytes_of k p (insert bytes_of len thresholds k p u) ≡ u
  unfolding insert remove without has_below pages_in
  back_end k (leaf []) g q a r = back-empty k
  back_end k (leaf (x ∷ xs)) g q a r =
      rw (add-stays bytes_of len thresholds k p (x ∷ xs) (r x xs refl), eq-eqb p p refl) (ap leaf (without-absent p (x ∷ xs) a))
  back_end k (inner none) g q a r = absurd (q refl)
  back_end k (inner (child c t cs)) g q a r =
      let y : ℕ = byte_at bytes_of k p in
      let v : Tree = add_leaf bytes_of len thresholds (suc k) p [] in
      let ds : Children = put_child y v (child c t cs) in
      rw (insert-gap bytes_of len thresholds k p (child c t cs) g)
      (remove-emptied bytes_of p k ds (has-put y v (child c t cs)) (rw (child-put y v (child c t cs)) (back-empty (suc k)))
      ∙ rw (drop-put y v (child c t cs)) (shrunk-some ds c t cs))

  -- ---- and so along the path
  back-path : (d k : ℕ) (t : Tree) → has_path (path_of bytes_of k p d) t ≡ true → filled (subtree (path_of bytes_of k p d) t) ≡ true →
      remove bytes_of (k + d) p (insert bytes_of len thresholds (k + d) p (subtree (path_of bytes_of k p d) t)) ≡ subtree (path_of bytes_of k p d) t →
      remove bytes_of k p (insert bytes_of len thresholds k p t) ≡ t
  back-path d k t h f e =
      let ys : List ℕ = path_of bytes_of k p d in
      let u : Tree = subtree ys t in
      let v : Tree = insert bytes_of len thresholds (k + d) p u in
      let g : remove bytes_of (k + d) p (subtree ys (replace ys t v)) ≡ u = rw (subtree-replace v ys t h) e in
      ap (remove bytes_of k p) (insert-path bytes_of len thresholds p d k t h)
      ∙ remove-path bytes_of p d k (replace ys t v) (path-replace v ys t h) (rw g f)
      ∙ ap (replace ys (replace ys t v)) g
      ∙ replace-replace u v ys t h
      ∙ replace-same ys t

  -- the trie is as before, unless the page comes into a leaf with other pages and this splits, or below a childless node of an earlier store
  pub back-same : (k : ℕ) (t : Tree) → sound_trie bytes_of b n len k t ≡ true → any (eqb p) (pages_in t) ≡ false →
      (subtree (path_of bytes_of k p (depth bytes_of k p t)) t ≡ inner none → ⊥) →
      ((x : ℕ) (xs : List ℕ) → subtree (path_of bytes_of k p (depth bytes_of k p t)) t ≡ leaf (x ∷ xs) →
      splits len thresholds (k + depth bytes_of k p t) (length (p ∷ x ∷ xs)) ≡ false) →
      remove bytes_of k p (insert bytes_of len thresholds k p t) ≡ t
  unfolding insert
  back-same k t h a q r =
      let d : ℕ = depth bytes_of k p t in
      let ys : List ℕ = path_of bytes_of k p d in
      let i : has_path ys t ≡ true = depth-path bytes_of p k t in
      elim (truth (filled t)) [
        | holds f ↦
            back-path d k t i (subtree-filled bytes_of b n len k ys t h i f)
            (back_end (k + d) (subtree ys t) (depth-end bytes_of p k t) q (sym (path-any bytes_of b n len p d k t h i) ∙ a) r)
        | fails f ↦ rw (empty_leaf t f) (back-empty k)
      ]

  -- ---- a page taken out and put in again: the same pages stand
  pub again-stands : (live : ℕ → Bool) (k : ℕ) (t : Tree) → sound_trie bytes_of b n len k t ≡ true → Stands live t → live p ≡ true →
      Stands live (insert bytes_of len thresholds k p (remove bytes_of k p t))
  unfolding Stands
  again-stands live k t h s a x =
      insert-stands (without_page p live) (remove bytes_of k p t) (remove-stands live t s bytes_of b n len k p h) bytes_of len thresholds k p (rw (eq-eqb p p refl) refl) x
      ∙ elim (truth (eqb x p)) [
        | holds z ↦ rw (z, ap live (eqb-true x p z) ∙ a) refl
        | fails z ↦ rw z refl
      ]
