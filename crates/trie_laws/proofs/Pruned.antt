-- Every inner node has a child: an insertion and a removal keep this. A sound trie then has few nodes.
use Prim.Native.Nat.{ℕ, zero, suc, ◌+◌, ◌*◌, ◌≤◌, ◌<◌}
use native.Mathlib.Omega.{arith}
use native.Mathlib.Nat.{zero-add, mul-suc, add-mul, mul-pos}
use mathlib.Core.Path.{◌≡◌, refl}
use mathlib.Core.Bool.{Bool, true, false, cond, ◌&&◌, false≢true}
use mathlib.Core.List.{List, [], ◌∷◌}
use lib.ListN.{length, replicate, length-append}
use Rattle.meaning.specs.Lists.{all}
use Rattle.meaning.specs.Trie.{Tree, leaf, inner, Children, none, child, fresh, put_leaf, prune, shrunk, byte_at, split, remove, remove_in, add_leaf, insert, insert_in, pages_in, pages_among, nodes, nodes_in, has_child, pruned, pruned_in}
use Rattle.meaning.specs.Ledger.{Settings, Row, row, Event, Call, opening, add, drop, change, reading, put_row, ledger}
use Rattle.meaning.specs.Forest.{block_bytes, bytes_in, each_from, forest_after, forest}
use Rattle.trie_laws.specs.Sound.{filled, sound_trie, sound_from}
use Rattle.trie_laws.specs.Needed.{splits}
use Rattle.trie_laws.specs.Path.{is_leaf, leaves}
use Rattle.meaning.proofs.Lists.{and_intro, and_first, and_second}
use Rattle.trie_laws.proofs.Lists.{less, same, more, compared, holds, fails, truth}
use Rattle.trie_laws.proofs.Leaf.{add-splits, add-stays}
use Rattle.trie_laws.proofs.Pages.{split-leaves}
use Rattle.trie_laws.proofs.Sound.{inner-parts, child-parts}

pub fresh-pruned : pruned fresh ≡ true
unfolding fresh pruned
fresh-pruned = refl

-- ---- an insertion: a leaf that splits has a page, and so its children have one
leaf-pruned : (t : Tree) → is_leaf t ≡ true → pruned t ≡ true
unfolding is_leaf pruned
leaf-pruned (leaf ps) h = refl
leaf-pruned (inner cs) h = absurd (false≢true h)

leaves-pruned : (cs : Children) → leaves cs ≡ true → pruned_in cs ≡ true
unfolding leaves pruned
leaves-pruned none h = refl
leaves-pruned (child c t cs) h =
    and_intro (pruned t) (pruned_in cs) (leaf-pruned t (and_first (is_leaf t) (leaves cs) h)) (leaves-pruned cs (and_second (is_leaf t) (leaves cs) h))

put_leaf-child : (b p : ℕ) (cs : Children) → has_child (put_leaf b p cs) ≡ true
unfolding put_leaf has_child
put_leaf-child b p none = refl
put_leaf-child b p (child c t cs) = elim (compared b c) [
  | less l s ↦ rw s.lt refl
  | same l s ↦ rw (s.lt, s.eq) refl
  | more l s ↦ rw (s.lt, s.eq) refl
]

split-child : (bytes_of : ℕ → List ℕ) (k : ℕ) (ps : List ℕ) (cs : Children) → has_child cs ≡ true → has_child (split bytes_of k ps cs) ≡ true
unfolding split
split-child bytes_of k [] cs h = h
split-child bytes_of k (p ∷ ps) cs h = split-child bytes_of k ps (put_leaf (byte_at bytes_of k p) p cs) (put_leaf-child (byte_at bytes_of k p) p cs)

module _ (bytes_of : ℕ → List ℕ) (len : ℕ) (thresholds : List ℕ) where
  split-pruned : (k p : ℕ) (ps : List ℕ) → pruned (inner (split bytes_of k (p ∷ ps) none)) ≡ true
  unfolding pruned split leaves
  split-pruned k p ps =
      let b : ℕ = byte_at bytes_of k p in
      let cs : Children = split bytes_of k ps (put_leaf b p none) in
      and_intro (has_child cs) (pruned_in cs) (split-child bytes_of k ps (put_leaf b p none) (put_leaf-child b p none))
      (leaves-pruned cs (split-leaves bytes_of k (p ∷ ps) none))

  add-pruned : (k p : ℕ) (ps : List ℕ) → pruned (add_leaf bytes_of len thresholds k p ps) ≡ true
  unfolding pruned
  add-pruned k p ps = elim (truth (splits len thresholds k (length (p ∷ ps)))) [
    | holds e ↦ rw (add-splits bytes_of len thresholds k p ps e) (split-pruned k p ps)
    | fails e ↦ rw (add-stays bytes_of len thresholds k p ps e) refl
  ]

  insert-child : (k p : ℕ) (cs : Children) → has_child (insert_in bytes_of len thresholds k p cs) ≡ true
  unfolding insert has_child
  insert-child k p none = refl
  insert-child k p (child c t cs) = elim (compared (byte_at bytes_of k p) c) [
    | less l s ↦ rw s.lt refl
    | same l s ↦ rw (s.lt, s.eq) refl
    | more l s ↦ rw (s.lt, s.eq) refl
  ]

  mutual
    unfolding insert pruned

    pub insert-pruned : (k p : ℕ) (t : Tree) → pruned t ≡ true → pruned (insert bytes_of len thresholds k p t) ≡ true
    insert-pruned k p (leaf ps) h = add-pruned k p ps
    insert-pruned k p (inner cs) h =
        and_intro (has_child (insert_in bytes_of len thresholds k p cs)) (pruned_in (insert_in bytes_of len thresholds k p cs)) (insert-child k p cs)
        (insert_in-pruned k p cs (and_second (has_child cs) (pruned_in cs) h))

    insert_in-pruned : (k p : ℕ) (cs : Children) → pruned_in cs ≡ true → pruned_in (insert_in bytes_of len thresholds k p cs) ≡ true
    insert_in-pruned k p none h = and_intro (pruned (add_leaf bytes_of len thresholds (suc k) p [])) true (add-pruned (suc k) p []) refl
    insert_in-pruned k p (child c t cs) h =
        let f : pruned t ≡ true = and_first (pruned t) (pruned_in cs) h in
        let g : pruned_in cs ≡ true = and_second (pruned t) (pruned_in cs) h in
        elim (compared (byte_at bytes_of k p) c) [
          | less l s ↦ rw s.lt (and_intro (pruned (add_leaf bytes_of len thresholds (suc k) p [])) (pruned t && pruned_in cs) (add-pruned (suc k) p []) h)
          | same l s ↦ rw (s.lt, s.eq) (and_intro (pruned (insert bytes_of len thresholds (suc k) p t)) (pruned_in cs) (insert-pruned (suc k) p t f) g)
          | more l s ↦ rw (s.lt, s.eq) (and_intro (pruned t) (pruned_in (insert_in bytes_of len thresholds k p cs)) f (insert_in-pruned k p cs g))
        ]

-- ---- a removal
prune-pruned : (c : ℕ) (t : Tree) (cs : Children) → pruned t ≡ true → pruned_in cs ≡ true → pruned_in (prune c t cs) ≡ true
unfolding prune pruned
prune-pruned c (leaf []) cs f g = g
prune-pruned c (leaf (p ∷ ps)) cs f g = g
prune-pruned c (inner ds) cs f g = and_intro (has_child ds && pruned_in ds) (pruned_in cs) f g

shrunk-pruned : (cs ds : Children) → has_child cs ≡ true → pruned_in ds ≡ true → pruned (shrunk cs ds) ≡ true
unfolding shrunk has_child pruned
shrunk-pruned none ds h g = absurd (false≢true h)
shrunk-pruned (child c t cs) none h g = refl
shrunk-pruned (child c t cs) (child d u ds) h g = g

module _ (bytes_of : ℕ → List ℕ) where
  mutual
    unfolding remove pruned

    pub remove-pruned : (k p : ℕ) (t : Tree) → pruned t ≡ true → pruned (remove bytes_of k p t) ≡ true
    remove-pruned k p (leaf ps) h = refl
    remove-pruned k p (inner cs) h =
        shrunk-pruned cs (remove_in bytes_of k p cs) (and_first (has_child cs) (pruned_in cs) h) (remove_in-pruned k p cs (and_second (has_child cs) (pruned_in cs) h))

    remove_in-pruned : (k p : ℕ) (cs : Children) → pruned_in cs ≡ true → pruned_in (remove_in bytes_of k p cs) ≡ true
    remove_in-pruned k p none h = refl
    remove_in-pruned k p (child c t cs) h =
        let f : pruned t ≡ true = and_first (pruned t) (pruned_in cs) h in
        let g : pruned_in cs ≡ true = and_second (pruned t) (pruned_in cs) h in
        elim (compared (byte_at bytes_of k p) c) [
          | less l s ↦ rw s.eq (and_intro (pruned t) (pruned_in (remove_in bytes_of k p cs)) f (remove_in-pruned k p cs g))
          | same l s ↦ rw s.eq (prune-pruned c (remove bytes_of (suc k) p t) cs (remove-pruned (suc k) p t f) g)
          | more l s ↦ rw s.eq (and_intro (pruned t) (pruned_in (remove_in bytes_of k p cs)) f (remove_in-pruned k p cs g))
        ]

-- ---- few nodes: a leaf that is not the root has a page, and so each other node has one below it
filled-leaf : (ps : List ℕ) → filled (leaf ps) ≡ true → 0 < length ps
unfolding filled
filled-leaf [] h = absurd (false≢true h)
filled-leaf (p ∷ ps) h = omega arith

module _ (bytes_of : ℕ → List ℕ) (b n len : ℕ) where
  mutual
    unfolding pruned pages_in nodes has_child

    -- a child at level k, with d levels from there on
    few-at : (t : Tree) (k d : ℕ) → k + d ≡ suc len → k ≤ len → filled t ≡ true → sound_trie bytes_of b n len k t ≡ true → pruned t ≡ true →
        (0 < length (pages_in t)) × (nodes t ≤ length (pages_in t) * d)
    few-at (leaf ps) k d e l f h q = let i = filled-leaf ps f in let j : 0 < d = omega arith in (i, mul-pos i j)
    few-at (inner cs) k zero e l f h q = absurd (omega arith)
    few-at (inner cs) k (suc d) e l f h q =
        let s = inner-parts bytes_of b n len k cs h in
        let m = few-below cs k 0 d (omega arith) s.level s.children_b (and_second (has_child cs) (pruned_in cs) q) in
        let i = m.0 (and_first (has_child cs) (pruned_in cs) q) in
        (i, omega (arith, m.1, mul-suc (length (pages_among cs)) d))

    -- the children of a node at level k, with d levels below it
    few-below : (cs : Children) (k lo d : ℕ) → k + d ≡ len → k < len → sound_from bytes_of b n len k lo cs ≡ true → pruned_in cs ≡ true →
        (has_child cs ≡ true → 0 < length (pages_among cs)) × (nodes_in cs ≤ length (pages_among cs) * d)
    few-below none k lo d e l h q = (λ z. absurd (false≢true z), omega arith)
    few-below (child c t cs) k lo d e l h q =
        let s = child-parts bytes_of b n len k lo c t cs h in
        let m = few-at t (suc k) d (omega arith) l s.here.full s.here.sub (and_first (pruned t) (pruned_in cs) q) in
        let r = few-below cs k (suc c) d e l s.rest (and_second (pruned t) (pruned_in cs) q) in
        rw (length-append (pages_in t) (pages_among cs))
        (λ z. omega (arith, m.0), omega (arith, m.1, r.1, add-mul (length (pages_in t)) (length (pages_among cs)) d))

  -- at most a node for each byte of each page, and the root
  pub few-nodes : (t : Tree) → sound_trie bytes_of b n len 0 t ≡ true → pruned t ≡ true → nodes t ≤ 1 + length (pages_in t) * len
  unfolding pruned pages_in nodes
  few-nodes (leaf ps) h q = omega arith
  few-nodes (inner cs) h q =
      let s = inner-parts bytes_of b n len 0 cs h in
      omega (arith, (few-below cs 0 0 len (zero-add len) s.level s.children_b (and_second (has_child cs) (pruned_in cs) q)).1)

  -- without pages the root alone, a leaf
  pub no-pages : (t : Tree) → sound_trie bytes_of b n len 0 t ≡ true → pruned t ≡ true → length (pages_in t) ≡ 0 → t ≡ fresh
  unfolding pruned pages_in fresh
  no-pages (leaf []) h q e = refl
  no-pages (leaf (p ∷ ps)) h q e = absurd (omega arith)
  no-pages (inner cs) h q e =
      let s = inner-parts bytes_of b n len 0 cs h in
      let i = (few-below cs 0 0 len (zero-add len) s.level s.children_b (and_second (has_child cs) (pruned_in cs) q)).0 (and_first (has_child cs) (pruned_in cs) q) in
      absurd (omega arith)

-- ---- the tries of all blocks, after any events
each-pruned : (f : ℕ → Tree → Tree) → ((j : ℕ) (t : Tree) → pruned t ≡ true → pruned (f j t) ≡ true) → (j : ℕ) (F : List Tree) →
    all pruned F ≡ true → all pruned (each_from f j F) ≡ true
unfolding each_from all
each-pruned f e j [] h = refl
each-pruned f e j (t ∷ F) h =
    and_intro (pruned (f j t)) (all pruned (each_from f (suc j) F)) (e j t (and_first (pruned t) (all pruned F) h))
    (each-pruned f e (suc j) F (and_second (pruned t) (all pruned F) h))

fresh-all : (q : ℕ) → all pruned (replicate q fresh) ≡ true
unfolding all
fresh-all zero = refl
fresh-all (suc q) = and_intro (pruned fresh) (all pruned (replicate q fresh)) fresh-pruned (fresh-all q)

after-pruned : (s : Settings) (rows : List Row) (c : Call) (F : List Tree) → all pruned F ≡ true → all pruned (forest_after s rows c F) ≡ true
unfolding forest_after
after-pruned s rows (opening s') F h = fresh-all s'.blocks
after-pruned s rows (add p c x) F h =
    let bytes : ℕ → ℕ → List ℕ = bytes_in s (put_row (row p c x) rows) in
    each-pruned (λ j. insert (bytes j) (block_bytes s j) s.thresholds 0 p) (λ j. insert-pruned (bytes j) (block_bytes s j) s.thresholds 0 p) 0 F h
after-pruned s rows (drop p) F h = each-pruned (λ j. remove (bytes_in s rows j) 0 p) (λ j. remove-pruned (bytes_in s rows j) 0 p) 0 F h
after-pruned s rows (change c) F h = h
after-pruned s rows (reading q) F h = h

pub forest-pruned : (es : List Event) → all pruned (forest es) ≡ true
unfolding forest all
forest-pruned [] = refl
forest-pruned (e ∷ es) = go e.refused (forest-pruned es)
  where
    s : Settings
    s = (ledger es).settings

    go : (t : Bool) → all pruned (forest es) ≡ true → all pruned (cond t (forest es) (forest_after s (ledger es).rows e.call (forest es))) ≡ true
    go true h = h
    go false h = after-pruned s (ledger es).rows e.call (forest es) h
