-- The pages of a trie after an insertion, and after a removal: no page is lost or doubled.
use Prim.Native.Nat.{ℕ, suc, ◌+◌, ◌≤◌, ◌<◌}
use native.Mathlib.Omega.{arith}
use native.Mathlib.Nat.{zero-add}
use mathlib.Core.Path.{◌≡◌, refl, sym, ap, ◌∙◌, fun_ext}
use mathlib.Core.Bool.{Bool, true, false, cond, not, ◌&&◌, ◌||◌, and-false, true≢false, false≢true}
use mathlib.Core.List.{List, [], ◌∷◌}
use lib.Dec.{ltb, eqb}
use lib.ListN.{length}
use borrow.Author.Tests.{eqb-true, lt-ltb, ne_eqb}
use Rattle.meaning.specs.Lists.{all, any, count, upto}
use Rattle.meaning.specs.Trie.{Tree, leaf, inner, Children, none, child, without, push, put_leaf, prune, shrunk, byte_at, split, remove, remove_in, add_leaf, insert, insert_in, pages_in, pages_among}
use Rattle.trie_laws.specs.Sound.{sound_trie, sound_from, Stands, with_page, without_page}
use Rattle.trie_laws.specs.Needed.{splits}
use Rattle.trie_laws.specs.Path.{is_leaf, leaves}
use Rattle.meaning.proofs.Lists.{and_first, and_second, not_so, any_append, count-append, eqb_comm, each_all}
use Rattle.trie_laws.proofs.Lists.{less, same, more, compared, holds, fails, truth, or-none, any-count, all-count, count_none, all_any}
use Rattle.trie_laws.proofs.Distinct.{distinct-once, distinct-count}
use Rattle.trie_laws.proofs.Leaf.{add-splits, add-stays}
use Rattle.trie_laws.proofs.Sound.{inner-parts, child-parts}

-- ---- a split: the children are leaves
push-leaf : (p : ℕ) (t : Tree) → is_leaf (push p t) ≡ is_leaf t
unfolding push is_leaf
push-leaf p (leaf ps) = refl
push-leaf p (inner cs) = refl

pub put_leaf-leaves : (b p : ℕ) (cs : Children) → leaves (put_leaf b p cs) ≡ leaves cs
unfolding put_leaf leaves is_leaf
put_leaf-leaves b p none = refl
put_leaf-leaves b p (child c t cs) = elim (compared b c) [
  | less l s ↦ rw s.lt refl
  | same l s ↦ rw (s.lt, s.eq, push-leaf p t) refl
  | more l s ↦ rw (s.lt, s.eq, put_leaf-leaves b p cs) refl
]

pub split-leaves : (bytes_of : ℕ → List ℕ) (k : ℕ) (ps : List ℕ) (cs : Children) → leaves (split bytes_of k ps cs) ≡ leaves cs
unfolding split
split-leaves bytes_of k [] cs = refl
split-leaves bytes_of k (p ∷ ps) cs = split-leaves bytes_of k ps (put_leaf (byte_at bytes_of k p) p cs) ∙ put_leaf-leaves (byte_at bytes_of k p) p cs

-- ---- how many pages pass a test
module _ (q : ℕ → Bool) where
  push-count : (p : ℕ) (t : Tree) → is_leaf t ≡ true → count q (pages_in (push p t)) ≡ cond (q p) 1 0 + count q (pages_in t)
  unfolding push pages_in is_leaf count
  push-count p (leaf ps) h = refl
  push-count p (inner cs) h = absurd (false≢true h)

  pub put_leaf-count : (b p : ℕ) (cs : Children) → leaves cs ≡ true → count q (pages_among (put_leaf b p cs)) ≡ cond (q p) 1 0 + count q (pages_among cs)
  unfolding put_leaf pages_in leaves count
  put_leaf-count b p none h = refl
  put_leaf-count b p (child c t cs) h = elim (compared b c) [
    | less l s ↦ rw s.lt refl
    | same l s ↦ simp (s.lt, s.eq, count-append q) (omega (arith, push-count p t (and_first (is_leaf t) (leaves cs) h)))
    | more l s ↦ simp (s.lt, s.eq, count-append q) (omega (arith, put_leaf-count b p cs (and_second (is_leaf t) (leaves cs) h)))
  ]

  pub split-count : (bytes_of : ℕ → List ℕ) (k : ℕ) (ps : List ℕ) (cs : Children) → leaves cs ≡ true →
      count q (pages_among (split bytes_of k ps cs)) ≡ count q ps + count q (pages_among cs)
  unfolding split count
  split-count bytes_of k [] cs h = omega arith
  split-count bytes_of k (p ∷ ps) cs h =
      let b : ℕ = byte_at bytes_of k p in
      omega (arith, split-count bytes_of k ps (put_leaf b p cs) (put_leaf-leaves b p cs ∙ h), put_leaf-count b p cs h)

  module _ (bytes_of : ℕ → List ℕ) (len : ℕ) (thresholds : List ℕ) where
    add-count : (k p : ℕ) (ps : List ℕ) → count q (pages_in (add_leaf bytes_of len thresholds k p ps)) ≡ cond (q p) 1 0 + count q ps
    unfolding pages_in count leaves
    add-count k p ps = elim (truth (splits len thresholds k (length (p ∷ ps)))) [
      | holds e ↦ rw (add-splits bytes_of len thresholds k p ps e) (omega (arith, split-count bytes_of k (p ∷ ps) none refl))
      | fails e ↦ rw (add-stays bytes_of len thresholds k p ps e) refl
    ]

    mutual
      unfolding insert pages_in count

      pub insert-count : (k p : ℕ) (t : Tree) → count q (pages_in (insert bytes_of len thresholds k p t)) ≡ cond (q p) 1 0 + count q (pages_in t)
      insert-count k p (leaf ps) = add-count k p ps
      insert-count k p (inner cs) = insert_in-count k p cs

      pub insert_in-count : (k p : ℕ) (cs : Children) → count q (pages_among (insert_in bytes_of len thresholds k p cs)) ≡ cond (q p) 1 0 + count q (pages_among cs)
      insert_in-count k p none = simp (count-append q) (omega (arith, add-count (suc k) p []))
      insert_in-count k p (child c t cs) = elim (compared (byte_at bytes_of k p) c) [
        | less l s ↦ simp (s.lt, count-append q) (omega (arith, add-count (suc k) p []))
        | same l s ↦ simp (s.lt, s.eq, count-append q) (omega (arith, insert-count (suc k) p t))
        | more l s ↦ simp (s.lt, s.eq, count-append q) (omega (arith, insert_in-count k p cs))
      ]

-- ---- a removal
module _ (q : ℕ → Bool) (p : ℕ) where
  without-count : (xs : List ℕ) → count q (without p xs) ≡ count (λ x. not (eqb x p) && q x) xs
  unfolding without count
  without-count [] = refl
  without-count (x ∷ xs) = elim (truth (eqb x p)) [
    | holds e ↦ rw e (omega (arith, without-count xs))
    | fails e ↦ rw e (omega (arith, without-count xs))
  ]

  -- where the page is not, nothing changes
  pub absent-count : (xs : List ℕ) → any (eqb p) xs ≡ false → count q xs ≡ count (λ x. not (eqb x p) && q x) xs
  unfolding count any
  absent-count [] h = refl
  absent-count (x ∷ xs) h =
      let o = or-none (eqb p x) (any (eqb p) xs) h in
      rw (eqb_comm x p, o.0) (ap (λ (n : ℕ). cond (q x) 1 0 + n) (absent-count xs o.1))

  prune-count : (c : ℕ) (t : Tree) (cs : Children) → count q (pages_among (prune c t cs)) ≡ count q (pages_in t) + count q (pages_among cs)
  unfolding prune pages_in count
  prune-count c (leaf []) cs = omega arith
  prune-count c (leaf (x ∷ xs)) cs = count-append q (x ∷ xs) (pages_among cs)
  prune-count c (inner ds) cs = count-append q (pages_among ds) (pages_among cs)

shrunk-pages : (cs ds : Children) → pages_in (shrunk cs ds) ≡ pages_among ds
unfolding shrunk pages_in
shrunk-pages none ds = refl
shrunk-pages (child c t cs) none = refl
shrunk-pages (child c t cs) (child d u ds) = refl

-- a page stands nowhere but below its own byte
pub off_byte : (bytes_of : ℕ → List ℕ) (k p c : ℕ) (xs : List ℕ) →
    all (λ x. eqb (byte_at bytes_of k x) c) xs ≡ true → eqb (byte_at bytes_of k p) c ≡ false → any (eqb p) xs ≡ false
off_byte bytes_of k p c xs h e =
    all_any (λ x. eqb (byte_at bytes_of k x) c) (eqb p) xs h
    (λ x m. not_so (eqb p x) (λ z. true≢false (sym m ∙ rw (← (eqb-true p x z)) e)))

module _ (bytes_of : ℕ → List ℕ) (b n len : ℕ) where
  pub off-bytes : (k p lo : ℕ) (cs : Children) → sound_from bytes_of b n len k lo cs ≡ true → byte_at bytes_of k p < lo → any (eqb p) (pages_among cs) ≡ false
  unfolding pages_in any
  off-bytes k p lo none h l = refl
  off-bytes k p lo (child c t cs) h l =
      let s = child-parts bytes_of b n len k lo c t cs h in
      rw (any_append (eqb p) (pages_in t) (pages_among cs), off_byte bytes_of k p c (pages_in t) s.here.path (ne_eqb (byte_at bytes_of k p) c (omega (arith, s.rising))))
      (off-bytes k p (suc c) cs s.rest (omega (arith, s.rising)))

  module _ (q : ℕ → Bool) where
    mutual
      unfolding remove pages_in count

      pub remove-count : (k p : ℕ) (t : Tree) → sound_trie bytes_of b n len k t ≡ true → count q (pages_in (remove bytes_of k p t)) ≡ count (λ x. not (eqb x p) && q x) (pages_in t)
      remove-count k p (leaf ps) h = without-count q p ps
      remove-count k p (inner cs) h =
          rw (shrunk-pages cs (remove_in bytes_of k p cs)) (remove_in-count k p 0 cs (inner-parts bytes_of b n len k cs h).children_b)

      pub remove_in-count : (k p lo : ℕ) (cs : Children) → sound_from bytes_of b n len k lo cs ≡ true →
          count q (pages_among (remove_in bytes_of k p cs)) ≡ count (λ x. not (eqb x p) && q x) (pages_among cs)
      remove_in-count k p lo none h = refl
      remove_in-count k p lo (child c t cs) h =
          let s = child-parts bytes_of b n len k lo c t cs h in
          elim (truth (eqb (byte_at bytes_of k p) c)) [
            | holds e ↦
                let away : any (eqb p) (pages_among cs) ≡ false = off-bytes k p (suc c) cs s.rest (omega (arith, eqb-true (byte_at bytes_of k p) c e)) in
                simp (e, count-append) (omega (arith, prune-count q p c (remove bytes_of (suc k) p t) cs, remove-count (suc k) p t s.here.sub, absent-count q p (pages_among cs) away))
            | fails e ↦
                simp (e, count-append)
                (omega (arith, remove_in-count k p (suc c) cs s.rest, absent-count q p (pages_in t) (off_byte bytes_of k p c (pages_in t) s.here.path e)))
          ]

-- ---- some page passes a test, or all
module _ (q : ℕ → Bool) (bytes_of : ℕ → List ℕ) (len : ℕ) (thresholds : List ℕ) (k p : ℕ) (t : Tree) where
  pub insert-any : any q (pages_in (insert bytes_of len thresholds k p t)) ≡ q p || any q (pages_in t)
  insert-any =
      any-count q (pages_in (insert bytes_of len thresholds k p t))
      ∙ rw (insert-count q bytes_of len thresholds k p t, any-count q (pages_in t)) (go (q p) (count q (pages_in t)))
    where
      go : (s : Bool) (c : ℕ) → ltb 0 (cond s 1 0 + c) ≡ s || ltb 0 c
      go true c = lt-ltb 0 (1 + c) (omega arith)
      go false c = rw (zero-add c) refl

  pub insert_all : all q (pages_in (insert bytes_of len thresholds k p t)) ≡ q p && all q (pages_in t)
  insert_all =
      all-count q (pages_in (insert bytes_of len thresholds k p t))
      ∙ rw (insert-count (λ x. not (q x)) bytes_of len thresholds k p t, all-count q (pages_in t)) (go (q p) (count (λ x. not (q x)) (pages_in t)))
    where
      go : (s : Bool) (c : ℕ) → eqb (cond (not s) 1 0 + c) 0 ≡ s && eqb c 0
      go true c = rw (zero-add c) refl
      go false c = ne_eqb (1 + c) 0 (omega arith)

module _ (q : ℕ → Bool) (bytes_of : ℕ → List ℕ) (b n len k p : ℕ) (t : Tree) (h : sound_trie bytes_of b n len k t ≡ true) where
  pub remove-any : any q (pages_in (remove bytes_of k p t)) ≡ any (λ x. not (eqb x p) && q x) (pages_in t)
  remove-any =
      any-count q (pages_in (remove bytes_of k p t))
      ∙ rw (remove-count bytes_of b n len q k p t h, any-count (λ x. not (eqb x p) && q x) (pages_in t)) refl

  pub remove-all : all q (pages_in (remove bytes_of k p t)) ≡ all (λ x. eqb x p || q x) (pages_in t)
  remove-all =
      all-count q (pages_in (remove bytes_of k p t))
      ∙ rw (remove-count bytes_of b n len (λ x. not (q x)) k p t h, all-count (λ x. eqb x p || q x) (pages_in t))
      (ap (λ (f : ℕ → Bool). eqb (count f (pages_in t)) 0) (fun_ext (λ x. sym (neither (eqb x p) (q x)))))
    where
      neither : (r s : Bool) → not (r || s) ≡ not r && not s
      neither true s = refl
      neither false s = refl

-- ---- one page
only : (x p : ℕ) (xs : List ℕ) → count (λ y. not (eqb y p) && eqb x y) xs ≡ cond (eqb x p) 0 (count (eqb x) xs)
only x p xs = ap (λ (f : ℕ → Bool). count f xs) (fun_ext here) ∙ go (eqb x p)
  where
    here : (y : ℕ) → not (eqb y p) && eqb x y ≡ not (eqb x p) && eqb x y
    here y = elim (truth (eqb x y)) [
      | holds e ↦ rw (eqb-true x y e) refl
      | fails e ↦ rw e (and-false (not (eqb y p)) ∙ sym (and-false (not (eqb x p))))
    ]

    go : (s : Bool) → count (λ y. not s && eqb x y) xs ≡ cond s 0 (count (eqb x) xs)
    go true = count_none (λ y. false) xs (λ y. refl)
    go false = refl

pub remove-times : (bytes_of : ℕ → List ℕ) (b n len k p x : ℕ) (t : Tree) → sound_trie bytes_of b n len k t ≡ true →
    count (eqb x) (pages_in (remove bytes_of k p t)) ≡ cond (eqb x p) 0 (count (eqb x) (pages_in t))
remove-times bytes_of b n len k p x t h = remove-count bytes_of b n len (eqb x) k p t h ∙ only x p (pages_in t)

pub remove-member : (bytes_of : ℕ → List ℕ) (b n len k p x : ℕ) (t : Tree) → sound_trie bytes_of b n len k t ≡ true →
    any (eqb x) (pages_in (remove bytes_of k p t)) ≡ not (eqb x p) && any (eqb x) (pages_in t)
remove-member bytes_of b n len k p x t h =
    any-count (eqb x) (pages_in (remove bytes_of k p t))
    ∙ rw (remove-times bytes_of b n len k p x t h, any-count (eqb x) (pages_in t)) (go (eqb x p))
  where
    go : (s : Bool) → ltb 0 (cond s 0 (count (eqb x) (pages_in t))) ≡ not s && ltb 0 (count (eqb x) (pages_in t))
    go true = refl
    go false = refl

-- ---- the live pages
module _ (live : ℕ → Bool) (t : Tree) (h : Stands live t) where
  pub stands-any : (x : ℕ) → any (eqb x) (pages_in t) ≡ live x
  unfolding Stands
  stands-any x = any-count (eqb x) (pages_in t) ∙ rw (h x) (go (live x))
    where
      go : (s : Bool) → ltb 0 (cond s 1 0) ≡ s
      go true = refl
      go false = refl

  -- what holds of each live page holds of each page that stands
  pub stands-all : (q : ℕ → Bool) → ((x : ℕ) → live x ≡ true → q x ≡ true) → all q (pages_in t) ≡ true
  stands-all q e = each_all q (pages_in t) (λ x m. e x (sym (stands-any x) ∙ m))

  -- as many as there are live pages
  pub stands-length : (m : ℕ) → ((x : ℕ) → live x ≡ true → x < m) → length (pages_in t) ≡ count live (upto m)
  unfolding Stands
  stands-length m l =
      let b : all (λ x. ltb x m) (pages_in t) ≡ true = stands-all (λ x. ltb x m) (λ x e. lt-ltb x m (l x e)) in
      sym (distinct-once (λ y. false) (pages_in t) (λ x. rw (h x) (at_most (live x))))
      ∙ distinct-count m (λ y. false) (pages_in t) b
      ∙ ap (λ (f : ℕ → Bool). count f (upto m)) (fun_ext stands-any)
    where
      at_most : (q : Bool) → cond q 1 0 + 0 ≤ 1
      at_most true = omega arith
      at_most false = omega arith

  pub insert-stands : (bytes_of : ℕ → List ℕ) (len : ℕ) (thresholds : List ℕ) (k p : ℕ) → live p ≡ false →
      Stands (with_page p live) (insert bytes_of len thresholds k p t)
  unfolding Stands
  insert-stands bytes_of len thresholds k p e x =
      insert-count (eqb x) bytes_of len thresholds k p t ∙ rw (h x) (elim (truth (eqb x p)) [
        | holds z ↦ rw (z, ap live (eqb-true x p z) ∙ e) refl
        | fails z ↦ rw z (zero-add (cond (live x) 1 0))
      ])

  pub remove-stands : (bytes_of : ℕ → List ℕ) (b n len k p : ℕ) → sound_trie bytes_of b n len k t ≡ true →
      Stands (without_page p live) (remove bytes_of k p t)
  unfolding Stands
  remove-stands bytes_of b n len k p s x = remove-times bytes_of b n len k p x t s ∙ rw (h x) (go (eqb x p))
    where
      go : (s : Bool) → cond {A = ℕ} s 0 (cond (live x) 1 0) ≡ cond (cond s false (live x)) 1 0
      go true = refl
      go false = refl
