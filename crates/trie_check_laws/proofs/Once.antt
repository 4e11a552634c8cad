-- No page stands twice in a trie that was found; where it has as many pages as are live, it has exactly the live ones.
use Prim.Native.Nat.{ℕ, zero, suc, ◌+◌, ◌≤◌, ◌<◌}
use native.Mathlib.Omega.{arith}
use mathlib.Core.Path.{◌≡◌, refl, sym, ap, ◌∙◌}
use mathlib.Core.Bool.{Bool, true, false, cond, ◌&&◌, ◌||◌, true≢false, false≢true}
use mathlib.Core.List.{List, [], ◌∷◌, ◌++◌}
use lib.Dec.{ltb, eqb}
use lib.ListN.{length}
use borrow.Author.Tests.{eqb-true, ltb-true}
use Rattle.meaning.specs.Lists.{all, any, count, from, upto}
use Rattle.meaning.specs.Trie.{Children, child, byte_at, pages_in, pages_among}
use Rattle.layout.specs.Pages.{is_live}
use Rattle.children.specs.Heap.{Holds}
use Rattle.children.specs.Phys.{Phys, Kids, leaf_p, inner_p, no_kid, kid, tree, children_of, page_cells, cells, Sound, SoundK}
use Rattle.children.proofs.Claims.{below_all, Trees, kid-trees}
use Rattle.trie_laws.specs.Sound.{sound_trie, sound_from, Stands}
use Rattle.meaning.proofs.Lists.{and_intro, not_so, count-append, all_append, all-each}
use Rattle.trie_laws.proofs.Lists.{Truth, holds, fails, truth, less, same, more, compared, any-count, any_none}
use Rattle.trie_laws.proofs.Sound.{inner-parts, child-parts}
use Rattle.trie_laws.proofs.Walk.{walk-sound}
use Rattle.trie_laws.proofs.Distinct.{distinct-once, distinct-count}
use Rattle.trie_laws.proofs.Pages.{off_byte, off-bytes}
use Rattle.node_check.specs.Given.{Given}
use Rattle.trie_check_laws.specs.Found.{Found}
use Rattle.trie_check_laws.proofs.Same.{same-pages}

-- ---- one leaf
module _ (base : ℕ) (N P : List ℕ) where
  -- the pages behind page x
  record Behind (x : ℕ) (ps : List ℕ) : Type 0 where
    after : List ℕ
    held : Holds (page_cells base (x ∷ after)) N P
    shorter : length after < length ps

  behind : (x : ℕ) (ps : List ℕ) → Holds (page_cells base ps) N P → any (eqb x) ps ≡ true → Behind x ps
  unfolding any
  behind x [] h m = absurd (false≢true m)
  behind x (p ∷ ps) h m = go (eqb x p) refl m (behind x ps h.1)
    where
      go : (q : Bool) → eqb x p ≡ q → q || any (eqb x) ps ≡ true → (any (eqb x) ps ≡ true → Behind x ps) → Behind x (p ∷ ps)
      go true e m ih = record { after = ps; held = rw (eqb-true x p e) h; shorter = omega arith }
      go false e m ih =
          let b = ih m in
          record { after = b.after; held = b.held; shorter = omega (arith, b.shorter) }

  leaf-once : (x : ℕ) (ps : List ℕ) → Holds (page_cells base ps) N P → count (eqb x) ps ≤ 1
  unfolding count
  leaf-once x [] h = omega arith
  leaf-once x (p ∷ ps) h = go (eqb x p) refl (leaf-once x ps h.1)
    where
      away : x ≡ p → any (eqb x) ps ≡ true → ⊥
      away e m =
          let b = behind x ps h.1 m in
          let same : x ∷ b.after ≡ p ∷ ps = same-pages base N P (x ∷ b.after) (p ∷ ps) b.held h (ap (λ y. y + 1) e) in
          omega (arith, ap length same, b.shorter)

      go : (q : Bool) → eqb x p ≡ q → count (eqb x) ps ≤ 1 → cond q 1 0 + count (eqb x) ps ≤ 1
      go true e l = omega (arith, any_none (eqb x) ps (not_so (any (eqb x) ps) (away (eqb-true x p e))))
      go false e l = omega arith

-- ---- children
module _ (base : ℕ) (N P : List ℕ) (bytes_of : ℕ → List ℕ) (b n len : ℕ) (cap : ℕ) (x : ℕ) where
  -- a child with byte c, and those with later bytes
  child-once : (k lo c : ℕ) (t : Phys) (cs : Children) → sound_from bytes_of b n len k lo (child c (tree t) cs) ≡ true
      → count (eqb x) (pages_in (tree t)) ≤ 1 → count (eqb x) (pages_among cs) ≤ 1 → count (eqb x) (pages_among (child c (tree t) cs)) ≤ 1
  unfolding pages_in
  child-once k lo c t cs h u v = go (truth (eqb (byte_at bytes_of k x) c))
    where
      sum : count (eqb x) (pages_in (tree t) ++ pages_among cs) ≡ count (eqb x) (pages_in (tree t)) + count (eqb x) (pages_among cs)
      sum = count-append (eqb x) (pages_in (tree t)) (pages_among cs)

      go : Truth (eqb (byte_at bytes_of k x) c) → count (eqb x) (pages_in (tree t) ++ pages_among cs) ≤ 1
      go (holds e) =
          let s = child-parts bytes_of b n len k lo c (tree t) cs h in
          let there : byte_at bytes_of k x ≡ c = eqb-true (byte_at bytes_of k x) c e in
          omega (arith, sum, any_none (eqb x) (pages_among cs) (off-bytes bytes_of b n len k x (suc c) cs s.rest (omega arith)))
      go (fails e) =
          let s = child-parts bytes_of b n len k lo c (tree t) cs h in
          omega (arith, sum, any_none (eqb x) (pages_in (tree t)) (off_byte bytes_of k x c (pages_in (tree t)) s.here.path e))

  mutual
    unfolding pages_in count

    tree-once : (t : Phys) (k : ℕ) → Holds (cells cap base t) N P → sound_trie bytes_of b n len k (tree t) ≡ true → count (eqb x) (pages_in (tree t)) ≤ 1
    tree-once (leaf_p m ps) k h s = leaf-once base N P x ps h.1.1
    tree-once (inner_p m ks) k h s = kids-once ks k 0 (kid-trees cap base N P ks m h.1) (inner-parts bytes_of b n len k (children_of ks) s).children_b

    kids-once : (ks : Kids) (k lo : ℕ) → Trees cap base N P ks → sound_from bytes_of b n len k lo (children_of ks) ≡ true → count (eqb x) (pages_among (children_of ks)) ≤ 1
    kids-once no_kid k lo h s = omega arith
    kids-once (kid c t ks) k lo h s =
        let parts = child-parts bytes_of b n len k lo c (tree t) (children_of ks) s in
        child-once k lo c t (children_of ks) s (tree-once t (suc k) h.0 parts.here.sub) (kids-once ks k (suc c) h.1 parts.rest)

-- ---- the pages are below the capacity
module _ (cap pcap : ℕ) where
  abbrev small : ℕ → Bool
  small p = ltb p pcap

  mutual
    unfolding pages_in all

    tree-below : (t : Phys) → Sound cap pcap t → all small (pages_in (tree t)) ≡ true
    tree-below (leaf_p n ps) s = below_all pcap ps s.1
    tree-below (inner_p n ks) s = kids-below ks 0 s.1

    kids-below : (ks : Kids) (lo : ℕ) → SoundK cap pcap ks lo → all small (pages_among (children_of ks)) ≡ true
    kids-below no_kid lo s = refl
    kids-below (kid c t ks) lo s =
        all_append small (pages_in (tree t)) (pages_among (children_of ks))
        ∙ and_intro (all small (pages_in (tree t))) (all small (pages_among (children_of ks))) (tree-below t s.2) (kids-below ks (suc c) s.3)

-- ---- as many pass both tests, and the first implies the second: they are the same
count_less : (f g : ℕ → Bool) (j m : ℕ) → ((x : ℕ) → f x ≡ true → g x ≡ true) → count f (from j m) ≤ count g (from j m)
unfolding count from
count_less f g j zero e = omega arith
count_less f g j (suc m) e = omega (arith, one_less (f j) (g j) (e j), count_less f g (suc j) m e)
  where
    one_less : (p q : Bool) → (p ≡ true → q ≡ true) → cond p 1 0 ≤ cond q 1 0
    one_less false q h = omega arith
    one_less true true h = omega arith
    one_less true false h = absurd (false≢true (h refl))

count_same : (f g : ℕ → Bool) (j m : ℕ) → ((x : ℕ) → f x ≡ true → g x ≡ true) → count f (from j m) ≡ count g (from j m)
    → (i : ℕ) → j ≤ i → i < j + m → f i ≡ g i
unfolding count from
count_same f g j zero e h i l u = absurd (omega arith)
count_same f g j (suc m) e h i l u = go (f j) (g j) refl refl h (count_less f g (suc j) m e) (count_same f g (suc j) m e)
  where
    Later : Type 0
    Later = count f (from (suc j) m) ≡ count g (from (suc j) m) → (i : ℕ) → suc j ≤ i → i < suc j + m → f i ≡ g i

    onward : f j ≡ g j → count f (from (suc j) m) ≡ count g (from (suc j) m) → Later → f i ≡ g i
    onward here h ih = elim (compared j i) [
      | less k s ↦ ih h i k (omega arith)
      | same k s ↦ rw (← k) here
      | more k s ↦ absurd (omega arith)
    ]

    go : (p q : Bool) → f j ≡ p → g j ≡ q → cond p 1 0 + count f (from (suc j) m) ≡ cond q 1 0 + count g (from (suc j) m)
        → count f (from (suc j) m) ≤ count g (from (suc j) m) → Later → f i ≡ g i
    go true true a b h k ih = onward (a ∙ sym b) (omega arith) ih
    go false false a b h k ih = onward (a ∙ sym b) (omega arith) ih
    go true false a b h k ih = absurd (true≢false (sym (e j a) ∙ b))
    go false true a b h k ih = absurd (omega arith)

-- ---- a trie that was found
module _ (w : Given) (bytes_of : ℕ → List ℕ) (at total : ℕ) (t : Phys) (found : Found w bytes_of at total t) where
  abbrev ps : List ℕ
  ps = pages_in (tree t)

  pub pages-once : (x : ℕ) → count (eqb x) (pages_in (tree t)) ≤ 1
  pages-once x =
      tree-once w.block.base w.nodes w.pages bytes_of w.rows.bits w.rows.length w.rows.bytes w.block.nodes x t 0 found.holds
      (sym (walk-sound bytes_of w.rows.bits w.rows.length w.rows.bytes (tree t)) ∙ found.walked)

  pub pages-below : all (λ p. ltb p w.block.pages) (pages_in (tree t)) ≡ true
  pages-below = tree-below w.block.nodes w.block.pages t found.sound

  -- where its pages are as many as those that are live, they are those
  module _ (even : total ≡ count (is_live w.pages) (upto w.block.pages)) where
    stands_live : (x : ℕ) → x < w.block.pages → any (eqb x) ps ≡ is_live w.pages x
    unfolding upto
    stands_live x l =
        count_same (λ y. any (eqb y) ps) (is_live w.pages) 0 w.block.pages (all-each (is_live w.pages) ps found.live)
        (sym (distinct-count w.block.pages (λ y. false) ps pages-below)
        ∙ distinct-once (λ y. false) ps (λ y. omega (arith, pages-once y))
        ∙ found.pages ∙ even) x (omega arith) (omega arith)

    pub pages-stand : Stands (λ x. ltb x w.block.pages && is_live w.pages x) (tree t)
    unfolding Stands
    pages-stand x = go (truth (ltb x w.block.pages)) (count (eqb x) ps) refl (pages-once x)
      where
        met : (c : ℕ) → count (eqb x) ps ≡ c → any (eqb x) ps ≡ ltb 0 c
        met c e = any-count (eqb x) ps ∙ ap (ltb 0) e

        small_count : (c : ℕ) → c ≤ 1 → c ≡ cond (ltb 0 c) 1 0
        small_count zero l = refl
        small_count (suc zero) l = refl
        small_count (suc (suc c)) l = absurd (omega arith)

        inside : any (eqb x) ps ≡ true → ltb x w.block.pages ≡ true
        inside m = all-each (λ p. ltb p w.block.pages) ps pages-below x m

        go : Truth (ltb x w.block.pages) → (c : ℕ) → count (eqb x) ps ≡ c → c ≤ 1
            → count (eqb x) ps ≡ cond (ltb x w.block.pages && is_live w.pages x) 1 0
        go (holds e) c m l =
            rw (e, ← (stands_live x (ltb-true x w.block.pages e)), met c m) (m ∙ small_count c l)
        go (fails e) c m l =
            rw e (any_none (eqb x) ps (not_so (any (eqb x) ps) (λ z. true≢false (sym (inside z) ∙ e))))
