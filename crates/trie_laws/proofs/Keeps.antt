-- An insertion and a removal keep a trie sound.
use Prim.Native.Nat.{ℕ, suc, ◌≤◌, ◌<◌}
use native.Mathlib.Omega.{arith}
use mathlib.Core.Path.{◌≡◌, refl, sym, ◌∙◌}
use mathlib.Core.Bool.{Bool, true, ◌&&◌, ◌||◌}
use mathlib.Core.List.{List, [], ◌∷◌}
use lib.Dec.{eqb}
use lib.ListN.{length}
use borrow.Author.Tests.{eq-eqb}
use Rattle.meaning.specs.Lists.{all}
use Rattle.meaning.specs.Sketch.{packed_length, packable, all_packable}
use Rattle.meaning.specs.Trie.{Tree, leaf, inner, Children, none, child, fresh, push, put_leaf, prune, shrunk, byte_at, split, remove, remove_in, add_leaf, insert, insert_in, pages_in, pages_among}
use Rattle.trie_laws.specs.Sound.{filled, packs, sound_trie, sound_from}
use Rattle.trie_laws.specs.Needed.{splits}
use Rattle.meaning.proofs.Lists.{and_intro, and_first, and_second, or-second, all_append, upto_all}
use Rattle.trie_laws.proofs.Lists.{less, same, more, compared, holds, fails, truth, all_more}
use Rattle.trie_laws.proofs.Leaf.{splits-level, add-splits, add-stays}
use Rattle.trie_laws.proofs.Sound.{SoundBelow, inner-parts, inner-whole, child-parts, lower, sound-last, sound-before, sound-instead, sound-behind}
use Rattle.trie_laws.proofs.Pages.{insert_all, remove-all}

push-filled : (p : ℕ) (t : Tree) → filled (push p t) ≡ true
unfolding push filled
push-filled p (leaf ps) = refl
push-filled p (inner cs) = refl

push-all : (q : ℕ → Bool) (p : ℕ) (t : Tree) → q p ≡ true → all q (pages_in t) ≡ true → all q (pages_in (push p t)) ≡ true
unfolding push pages_in all
push-all q p (leaf ps) e h = and_intro (q p) (all q ps) e h
push-all q p (inner cs) e h = h

module _ (bytes_of : ℕ → List ℕ) (b n len : ℕ) where
  pub fresh-sound : (k : ℕ) → sound_trie bytes_of b n len k fresh ≡ true
  unfolding fresh sound_trie
  fresh-sound k = refl

  pub packs-at : (p k : ℕ) → packs bytes_of b n len p ≡ true → k < len → packable b n k (byte_at bytes_of k p) ≡ true
  unfolding packs
  packs-at p k h l = upto_all (λ i. packable b n i (byte_at bytes_of i p)) len h k l

  -- with the packed length of n symbols this is the test of crate meaning
  pub packs-all : (p : ℕ) → len ≡ packed_length b n → packs bytes_of b n len p ≡ all_packable b n (bytes_of p)
  unfolding packs all_packable byte_at
  packs-all p e = rw e refl

  push-sound : (k p : ℕ) (t : Tree) → sound_trie bytes_of b n len k t ≡ true → sound_trie bytes_of b n len k (push p t) ≡ true
  unfolding push sound_trie
  push-sound k p (leaf ps) h = refl
  push-sound k p (inner cs) h = h

  -- ---- a split
  self : (k p : ℕ) → eqb (byte_at bytes_of k p) (byte_at bytes_of k p) ≡ true
  self k p = eq-eqb (byte_at bytes_of k p) (byte_at bytes_of k p) refl

  leaf-below : (k p : ℕ) → packable b n k (byte_at bytes_of k p) ≡ true → SoundBelow bytes_of b n len k (byte_at bytes_of k p) (leaf (p ∷ []))
  unfolding filled pages_in all sound_trie
  leaf-below k p e = record { packing = e; full = refl; path = and_intro (eqb (byte_at bytes_of k p) (byte_at bytes_of k p)) true (self k p) refl; sub = refl }

  push-below : (k p c : ℕ) (t : Tree) → byte_at bytes_of k p ≡ c → SoundBelow bytes_of b n len k c t → SoundBelow bytes_of b n len k c (push p t)
  push-below k p c t e s = record {
    packing = s.packing;
    full = push-filled p t;
    path = push-all (λ x. eqb (byte_at bytes_of k x) c) p t (eq-eqb (byte_at bytes_of k p) c e) s.path;
    sub = push-sound (suc k) p t s.sub;
  }

  pub put_leaf-sound : (k p lo : ℕ) (cs : Children) → lo ≤ byte_at bytes_of k p → packable b n k (byte_at bytes_of k p) ≡ true →
      sound_from bytes_of b n len k lo cs ≡ true → sound_from bytes_of b n len k lo (put_leaf (byte_at bytes_of k p) p cs) ≡ true
  unfolding put_leaf
  put_leaf-sound k p lo none l e h = sound-last bytes_of b n len k lo (byte_at bytes_of k p) (leaf (p ∷ [])) l (leaf-below k p e)
  put_leaf-sound k p lo (child c t cs) l e h =
      let y : ℕ = byte_at bytes_of k p in
      let s = child-parts bytes_of b n len k lo c t cs h in
      elim (compared y c) [
        | less m q ↦ rw q.lt (sound-before bytes_of b n len k lo c t cs h y (leaf (p ∷ [])) l m (leaf-below k p e))
        | same m q ↦ rw (q.lt, q.eq) (sound-instead bytes_of b n len k lo c t cs h (push p t) (push-below k p c t m s.here))
        | more m q ↦ rw (q.lt, q.eq) (sound-behind bytes_of b n len k lo c t cs h (put_leaf y p cs) (put_leaf-sound k p (suc c) cs m e s.rest))
      ]

  pub split-sound : (k : ℕ) (ps : List ℕ) (cs : Children) → k < len → all (packs bytes_of b n len) ps ≡ true →
      sound_from bytes_of b n len k 0 cs ≡ true → sound_from bytes_of b n len k 0 (split bytes_of k ps cs) ≡ true
  unfolding split all
  split-sound k [] cs l e h = h
  split-sound k (p ∷ ps) cs l e h =
      split-sound k ps (put_leaf (byte_at bytes_of k p) p cs) l (and_second (packs bytes_of b n len p) (all (packs bytes_of b n len) ps) e)
      (put_leaf-sound k p 0 cs (omega arith) (packs-at p k (and_first (packs bytes_of b n len p) (all (packs bytes_of b n len) ps) e) l) h)

  -- ---- an insertion
  module _ (thresholds : List ℕ) where
    add-sound : (k p : ℕ) (ps : List ℕ) → packs bytes_of b n len p ≡ true → all (packs bytes_of b n len) ps ≡ true →
        sound_trie bytes_of b n len k (add_leaf bytes_of len thresholds k p ps) ≡ true
    unfolding sound_trie all
    add-sound k p ps e f = elim (truth (splits len thresholds k (length (p ∷ ps)))) [
      | holds s ↦
          let l : k < len = splits-level len thresholds k (length (p ∷ ps)) s in
          rw (add-splits bytes_of len thresholds k p ps s)
          (inner-whole bytes_of b n len k (split bytes_of k (p ∷ ps) none)
          (record { level = l; children_b = split-sound k (p ∷ ps) none l (and_intro (packs bytes_of b n len p) (all (packs bytes_of b n len) ps) e f) refl }))
      | fails s ↦ rw (add-stays bytes_of len thresholds k p ps s) refl
    ]

    pub insert-filled : (k p : ℕ) (t : Tree) → filled (insert bytes_of len thresholds k p t) ≡ true
    unfolding insert filled
    insert-filled k p (leaf ps) = elim (truth (splits len thresholds k (length (p ∷ ps)))) [
      | holds s ↦ rw (add-splits bytes_of len thresholds k p ps s) refl
      | fails s ↦ rw (add-stays bytes_of len thresholds k p ps s) refl
    ]
    insert-filled k p (inner cs) = refl

    insert-below : (k p c : ℕ) (t : Tree) → byte_at bytes_of k p ≡ c → packable b n k c ≡ true → all (λ x. eqb (byte_at bytes_of k x) c) (pages_in t) ≡ true →
        sound_trie bytes_of b n len (suc k) (insert bytes_of len thresholds (suc k) p t) ≡ true →
        SoundBelow bytes_of b n len k c (insert bytes_of len thresholds (suc k) p t)
    insert-below k p c t e f a h =
        let q : ℕ → Bool = λ x. eqb (byte_at bytes_of k x) c in
        record {
          packing = f;
          full = insert-filled (suc k) p t;
          path = insert_all q bytes_of len thresholds (suc k) p t ∙ and_intro (q p) (all q (pages_in t)) (eq-eqb (byte_at bytes_of k p) c e) a;
          sub = h;
        }

    -- a child that is made
    made-below : (k p : ℕ) → k < len → packs bytes_of b n len p ≡ true → SoundBelow bytes_of b n len k (byte_at bytes_of k p) (add_leaf bytes_of len thresholds (suc k) p [])
    unfolding insert pages_in all
    made-below k p l e = insert-below k p (byte_at bytes_of k p) (leaf []) refl (packs-at p k e l) refl (add-sound (suc k) p [] e refl)

    mutual
      unfolding insert pages_in sound_trie

      pub insert-sound : (k p : ℕ) (t : Tree) → packs bytes_of b n len p ≡ true → all (packs bytes_of b n len) (pages_in t) ≡ true →
          sound_trie bytes_of b n len k t ≡ true → sound_trie bytes_of b n len k (insert bytes_of len thresholds k p t) ≡ true
      insert-sound k p (leaf ps) e f h = add-sound k p ps e f
      insert-sound k p (inner cs) e f h =
          let s = inner-parts bytes_of b n len k cs h in
          inner-whole bytes_of b n len k (insert_in bytes_of len thresholds k p cs)
          (record { level = s.level; children_b = insert_in-sound k p 0 cs s.level (omega arith) e f s.children_b })

      pub insert_in-sound : (k p lo : ℕ) (cs : Children) → k < len → lo ≤ byte_at bytes_of k p → packs bytes_of b n len p ≡ true →
          all (packs bytes_of b n len) (pages_among cs) ≡ true →
          sound_from bytes_of b n len k lo cs ≡ true → sound_from bytes_of b n len k lo (insert_in bytes_of len thresholds k p cs) ≡ true
      insert_in-sound k p lo none i l e f h =
          sound-last bytes_of b n len k lo (byte_at bytes_of k p) (add_leaf bytes_of len thresholds (suc k) p []) l (made-below k p i e)
      insert_in-sound k p lo (child c t cs) i l e f h =
          let y : ℕ = byte_at bytes_of k p in
          let s = child-parts bytes_of b n len k lo c t cs h in
          let g : all (packs bytes_of b n len) (pages_in t) && all (packs bytes_of b n len) (pages_among cs) ≡ true =
          sym (all_append (packs bytes_of b n len) (pages_in t) (pages_among cs)) ∙ f in
          elim (compared y c) [
            | less m q ↦ rw q.lt (sound-before bytes_of b n len k lo c t cs h y (add_leaf bytes_of len thresholds (suc k) p []) l m (made-below k p i e))
            | same m q ↦
                rw (q.lt, q.eq)
                (sound-instead bytes_of b n len k lo c t cs h (insert bytes_of len thresholds (suc k) p t)
                (insert-below k p c t m s.here.packing s.here.path
                (insert-sound (suc k) p t e (and_first (all (packs bytes_of b n len) (pages_in t)) (all (packs bytes_of b n len) (pages_among cs)) g) s.here.sub)))
            | more m q ↦
                rw (q.lt, q.eq)
                (sound-behind bytes_of b n len k lo c t cs h (insert_in bytes_of len thresholds k p cs)
                (insert_in-sound k p (suc c) cs i m e (and_second (all (packs bytes_of b n len) (pages_in t)) (all (packs bytes_of b n len) (pages_among cs)) g) s.rest))
          ]

  -- ---- a removal
  prune-sound : (k lo c : ℕ) (t u : Tree) (cs : Children) → sound_from bytes_of b n len k lo (child c t cs) ≡ true →
      all (λ x. eqb (byte_at bytes_of k x) c) (pages_in u) ≡ true → sound_trie bytes_of b n len (suc k) u ≡ true →
      sound_from bytes_of b n len k lo (prune c u cs) ≡ true
  unfolding prune filled
  prune-sound k lo c t (leaf []) cs h a g =
      let s = child-parts bytes_of b n len k lo c t cs h in lower bytes_of b n len k lo (suc c) cs (omega (arith, s.rising)) s.rest
  prune-sound k lo c t (leaf (x ∷ xs)) cs h a g =
      let s = child-parts bytes_of b n len k lo c t cs h in
      sound-instead bytes_of b n len k lo c t cs h (leaf (x ∷ xs)) (record { packing = s.here.packing; full = refl; path = a; sub = g })
  prune-sound k lo c t (inner ds) cs h a g =
      let s = child-parts bytes_of b n len k lo c t cs h in
      sound-instead bytes_of b n len k lo c t cs h (inner ds) (record { packing = s.here.packing; full = refl; path = a; sub = g })

  shrunk-sound : (k : ℕ) (cs ds : Children) → k < len → sound_from bytes_of b n len k 0 ds ≡ true → sound_trie bytes_of b n len k (shrunk cs ds) ≡ true
  unfolding shrunk sound_trie
  shrunk-sound k none ds l h = inner-whole bytes_of b n len k ds (record { level = l; children_b = h })
  shrunk-sound k (child c t cs) none l h = refl
  shrunk-sound k (child c t cs) (child d u ds) l h = inner-whole bytes_of b n len k (child d u ds) (record { level = l; children_b = h })

  mutual
    unfolding remove sound_trie

    pub remove-sound : (k p : ℕ) (t : Tree) → sound_trie bytes_of b n len k t ≡ true → sound_trie bytes_of b n len k (remove bytes_of k p t) ≡ true
    remove-sound k p (leaf ps) h = refl
    remove-sound k p (inner cs) h =
        let s = inner-parts bytes_of b n len k cs h in
        shrunk-sound k cs (remove_in bytes_of k p cs) s.level (remove_in-sound k p 0 cs s.children_b)

    pub remove_in-sound : (k p lo : ℕ) (cs : Children) → sound_from bytes_of b n len k lo cs ≡ true → sound_from bytes_of b n len k lo (remove_in bytes_of k p cs) ≡ true
    remove_in-sound k p lo none h = refl
    remove_in-sound k p lo (child c t cs) h =
        let s = child-parts bytes_of b n len k lo c t cs h in
        let q : ℕ → Bool = λ x. eqb (byte_at bytes_of k x) c in
        elim (truth (eqb (byte_at bytes_of k p) c)) [
          | holds e ↦
              rw e (prune-sound k lo c t (remove bytes_of (suc k) p t) cs h
              (remove-all q bytes_of b n len (suc k) p t s.here.sub ∙ all_more q (λ x. eqb x p || q x) (pages_in t) (λ x m. or-second (eqb x p) (q x) m) s.here.path)
              (remove-sound (suc k) p t s.here.sub))
          | fails e ↦ rw e (sound-behind bytes_of b n len k lo c t cs h (remove_in bytes_of k p cs) (remove_in-sound k p (suc c) cs s.rest))
        ]
