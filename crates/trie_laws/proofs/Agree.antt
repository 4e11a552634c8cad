-- Only the bytes of the page and of the pages in the trie matter: what is written to another page's row changes nothing.
use Prim.Native.Nat.{ℕ, suc}
use mathlib.Core.Path.{◌≡◌, refl, ap, ◌∙◌}
use mathlib.Core.Bool.{false≢true}
use mathlib.Core.List.{List, [], ◌∷◌, ◌++◌, map}
use lib.Dec.{eqb}
use lib.ListN.{get_or}
use borrow.Author.Tests.{eqb-true, eq-eqb}
use Rattle.meaning.specs.Lists.{all, any}
use Rattle.meaning.specs.Trie.{Tree, leaf, inner, Children, none, child, put_leaf, shrunk, byte_at, split, remove, remove_in, add_leaf, insert, insert_in, pages_in, pages_among}
use Rattle.trie_laws.specs.Sound.{Agree, sound_trie, sound_from}
use Rattle.trie_laws.specs.Needed.{distinct, split_nodes, needed, needed_in}
use Rattle.meaning.proofs.Lists.{or-first, or-second, any_append}
use Rattle.trie_laws.proofs.Lists.{holds, fails, truth, all-agree}

module _ (f g : ℕ → List ℕ) where
  byte-agree : (k p : ℕ) → f p ≡ g p → byte_at f k p ≡ byte_at g k p
  unfolding byte_at
  byte-agree k p e = ap (λ (ys : List ℕ). get_or ys k 0) e

  -- parts of a list of pages
  agree-head : (p : ℕ) (ps : List ℕ) → Agree f g (p ∷ ps) → f p ≡ g p
  unfolding any
  agree-head p ps h = h p (or-first (eqb p p) (any (eqb p) ps) (eq-eqb p p refl))

  agree-tail : (p : ℕ) (ps : List ℕ) → Agree f g (p ∷ ps) → Agree f g ps
  unfolding any
  agree-tail p ps h x m = h x (or-second (eqb x p) (any (eqb x) ps) m)

  agree-cons : (p : ℕ) (ps : List ℕ) → f p ≡ g p → Agree f g ps → Agree f g (p ∷ ps)
  unfolding any
  agree-cons p ps e h x m = elim (truth (eqb x p)) [
    | holds z ↦ rw (eqb-true x p z) e
    | fails z ↦ h x (rw z at m)
  ]

  agree-one : (p : ℕ) → f p ≡ g p → Agree f g (p ∷ [])
  unfolding any
  agree-one p e = agree-cons p [] e (λ x m. absurd (false≢true m))

  agree_left : (ps qs : List ℕ) → Agree f g (ps ++ qs) → Agree f g ps
  agree_left ps qs h x m = h x (any_append (eqb x) ps qs ∙ or-first (any (eqb x) ps) (any (eqb x) qs) m)

  agree_right : (ps qs : List ℕ) → Agree f g (ps ++ qs) → Agree f g qs
  agree_right ps qs h x m = h x (any_append (eqb x) ps qs ∙ or-second (any (eqb x) ps) (any (eqb x) qs) m)

  -- ---- a removal
  mutual
    unfolding remove

    pub remove-agree : (k p : ℕ) (t : Tree) → f p ≡ g p → remove f k p t ≡ remove g k p t
    remove-agree k p (leaf ps) e = refl
    remove-agree k p (inner cs) e = ap (shrunk cs) (remove_in-agree k p cs e)

    pub remove_in-agree : (k p : ℕ) (cs : Children) → f p ≡ g p → remove_in f k p cs ≡ remove_in g k p cs
    remove_in-agree k p none e = refl
    remove_in-agree k p (child c t cs) e = rw (byte-agree k p e, remove-agree (suc k) p t e, remove_in-agree k p cs e) refl

  -- ---- an insertion
  pub split-agree : (k : ℕ) (ps : List ℕ) (cs : Children) → Agree f g ps → split f k ps cs ≡ split g k ps cs
  unfolding split
  split-agree k [] cs h = refl
  split-agree k (p ∷ ps) cs h = rw (byte-agree k p (agree-head p ps h)) (split-agree k ps (put_leaf (byte_at g k p) p cs) (agree-tail p ps h))

  bytes-agree : (k : ℕ) (ps : List ℕ) → Agree f g ps → map (byte_at f k) ps ≡ map (byte_at g k) ps
  bytes-agree k [] h = refl
  bytes-agree k (p ∷ ps) h = rw (byte-agree k p (agree-head p ps h), bytes-agree k ps (agree-tail p ps h)) refl

  module _ (len : ℕ) (thresholds : List ℕ) where
    add-agree : (k p : ℕ) (ps : List ℕ) → Agree f g (p ∷ ps) → add_leaf f len thresholds k p ps ≡ add_leaf g len thresholds k p ps
    unfolding add_leaf
    add-agree k p ps h = rw (split-agree k (p ∷ ps) none h) refl

    mutual
      unfolding insert pages_in

      pub insert-agree : (k p : ℕ) (t : Tree) → f p ≡ g p → Agree f g (pages_in t) → insert f len thresholds k p t ≡ insert g len thresholds k p t
      insert-agree k p (leaf ps) e h = add-agree k p ps (agree-cons p ps e h)
      insert-agree k p (inner cs) e h = ap inner (insert_in-agree k p cs e h)

      pub insert_in-agree : (k p : ℕ) (cs : Children) → f p ≡ g p → Agree f g (pages_among cs) → insert_in f len thresholds k p cs ≡ insert_in g len thresholds k p cs
      insert_in-agree k p none e h = rw (byte-agree k p e, add-agree (suc k) p [] (agree-one p e)) refl
      insert_in-agree k p (child c t cs) e h =
          rw (
            byte-agree k p e,
            add-agree (suc k) p [] (agree-one p e),
            insert-agree (suc k) p t e (agree_left (pages_in t) (pages_among cs) h),
            insert_in-agree k p cs e (agree_right (pages_in t) (pages_among cs) h),
          ) refl

    nodes-agree : (k : ℕ) (ps : List ℕ) → Agree f g ps → split_nodes f len thresholds k ps ≡ split_nodes g len thresholds k ps
    unfolding split_nodes distinct
    nodes-agree k ps h = rw (bytes-agree k ps h) refl

    mutual
      unfolding needed pages_in

      pub needed-agree : (k p : ℕ) (t : Tree) → f p ≡ g p → Agree f g (pages_in t) → needed f len thresholds k p t ≡ needed g len thresholds k p t
      needed-agree k p (leaf ps) e h = nodes-agree k (p ∷ ps) (agree-cons p ps e h)
      needed-agree k p (inner cs) e h = needed_in-agree k p cs e h

      pub needed_in-agree : (k p : ℕ) (cs : Children) → f p ≡ g p → Agree f g (pages_among cs) → needed_in f len thresholds k p cs ≡ needed_in g len thresholds k p cs
      needed_in-agree k p none e h = ap suc (nodes-agree (suc k) (p ∷ []) (agree-one p e))
      needed_in-agree k p (child c t cs) e h =
          rw (
            byte-agree k p e,
            nodes-agree (suc k) (p ∷ []) (agree-one p e),
            needed-agree (suc k) p t e (agree_left (pages_in t) (pages_among cs) h),
            needed_in-agree k p cs e (agree_right (pages_in t) (pages_among cs) h),
          ) refl

  -- ---- soundness
  module _ (b n len : ℕ) where
    mutual
      unfolding sound_trie pages_in

      pub sound-agree : (k : ℕ) (t : Tree) → Agree f g (pages_in t) → sound_trie f b n len k t ≡ sound_trie g b n len k t
      sound-agree k (leaf ps) h = refl
      sound-agree k (inner cs) h = rw (sound_from-agree k 0 cs h) refl

      pub sound_from-agree : (k lo : ℕ) (cs : Children) → Agree f g (pages_among cs) → sound_from f b n len k lo cs ≡ sound_from g b n len k lo cs
      sound_from-agree k lo none h = refl
      sound_from-agree k lo (child c t cs) h =
          let l = agree_left (pages_in t) (pages_among cs) h in
          let path : all (λ p. eqb (byte_at f k p) c) (pages_in t) ≡ all (λ p. eqb (byte_at g k p) c) (pages_in t) =
          all-agree (λ p. eqb (byte_at f k p) c) (λ p. eqb (byte_at g k p) c) (pages_in t) (λ x m. rw (byte-agree k x (l x m)) refl) in
          rw (path, sound-agree (suc k) t l, sound_from-agree k (suc c) cs (agree_right (pages_in t) (pages_among cs) h)) refl
