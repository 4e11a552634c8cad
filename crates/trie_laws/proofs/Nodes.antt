-- How many nodes a trie has after an insertion, and after a removal.
use Prim.Native.Nat.{ℕ, zero, suc, ◌+◌, ◌<◌}
use native.Mathlib.Omega.{arith}
use mathlib.Core.Path.{◌≡◌, refl, sym, ◌∙◌, fun_ext}
use mathlib.Core.Bool.{Bool, true, false, cond, ◌&&◌, ◌||◌}
use mathlib.Core.List.{List, [], ◌∷◌, map}
use lib.Dec.{ltb, eqb}
use lib.ListN.{length, get_or}
use borrow.Author.Tests.{lt-ltb, le-ltb, eq-eqb, ne_eqb}
use Rattle.meaning.specs.Trie.{Tree, leaf, inner, Children, none, child, push, put_leaf, prune, shrunk, byte_at, split, remove, remove_in, add_leaf, insert, insert_in, nodes, nodes_in}
use Rattle.trie_laws.specs.Sound.{filled}
use Rattle.trie_laws.specs.Needed.{distinct_from, distinct, splits, split_nodes, needed, needed_in, frees, frees_in}
use Rattle.trie_laws.specs.Path.{has}
use Rattle.trie_laws.proofs.Distinct.{distinct-one}
use Rattle.trie_laws.proofs.Leaf.{add-splits, add-stays}
use Rattle.trie_laws.proofs.Lists.{less, same, more, compared, holds, fails, truth}

pub nodes-some : (t : Tree) → 0 < nodes t
unfolding nodes
nodes-some (leaf ps) = omega arith
nodes-some (inner cs) = omega arith

-- a page put into the child leaf of its byte makes a node where the byte is new
pub push-nodes : (p : ℕ) (t : Tree) → nodes (push p t) ≡ nodes t
unfolding push nodes
push-nodes p (leaf ps) = refl
push-nodes p (inner cs) = refl

pub put_leaf-nodes : (b p : ℕ) (cs : Children) → nodes_in (put_leaf b p cs) ≡ cond (has b cs) 0 1 + nodes_in cs
unfolding put_leaf nodes has
put_leaf-nodes b p none = refl
put_leaf-nodes b p (child c t cs) = elim (compared b c) [
  | less l s ↦ rw (s.lt, s.gt, s.qe) refl
  | same l s ↦ rw (s.lt, s.gt, s.eq, s.qe) (omega (arith, push-nodes p t))
  | more l s ↦ rw (s.lt, s.gt, s.eq) (omega (arith, put_leaf-nodes b p cs))
]

-- and the byte is among the children's then
pub put_leaf-has : (x b p : ℕ) (cs : Children) → has x (put_leaf b p cs) ≡ eqb x b || has x cs
unfolding put_leaf has
put_leaf-has x b p none = elim (compared x b) [
  | less l s ↦ rw (s.gt, s.eq, s.qe) refl
  | same l s ↦ rw (s.gt, s.eq, s.qe) refl
  | more l s ↦ rw (s.gt, s.eq) refl
]
put_leaf-has x b p (child c t cs) = elim (compared b c) [
  | less l s ↦ rw s.lt (elim (compared x b) [
    | less m q ↦ rw (q.gt, q.eq, q.qe, le-ltb c x (omega arith), ne_eqb c x (omega arith)) refl
    | same m q ↦ rw (q.gt, q.eq, q.qe) refl
    | more m q ↦ rw (q.gt, q.eq) refl
  ])
  | same l s ↦ rw (s.lt, s.eq) (elim (compared x b) [
    | less m q ↦ rw q.eq refl
    | same m q ↦ rw (q.eq, le-ltb c x (omega arith), eq-eqb c x (omega arith)) refl
    | more m q ↦ rw q.eq refl
  ])
  | more l s ↦ rw (s.lt, s.eq, put_leaf-has x b p cs) (elim (compared x b) [
    | less m q ↦ rw q.eq refl
    | same m q ↦ rw (q.eq, lt-ltb c x (omega arith)) refl
    | more m q ↦ rw q.eq refl
  ])
]

pub split-nodes : (bytes_of : ℕ → List ℕ) (k : ℕ) (ps : List ℕ) (cs : Children) →
    nodes_in (split bytes_of k ps cs) ≡ distinct_from (λ y. has y cs) (map (byte_at bytes_of k) ps) + nodes_in cs
unfolding split distinct_from
split-nodes bytes_of k [] cs = omega arith
split-nodes bytes_of k (p ∷ ps) cs =
    split-nodes bytes_of k ps (put_leaf (byte_at bytes_of k p) p cs)
    ∙ rw (fun_ext (λ y. put_leaf-has y (byte_at bytes_of k p) p cs)) (omega (arith, put_leaf-nodes (byte_at bytes_of k p) p cs))

-- ---- an insertion
module _ (bytes_of : ℕ → List ℕ) (len : ℕ) (thresholds : List ℕ) where
  add-nodes : (k p : ℕ) (ps : List ℕ) → nodes (add_leaf bytes_of len thresholds k p ps) ≡ 1 + split_nodes bytes_of len thresholds k (p ∷ ps)
  unfolding nodes split_nodes distinct has
  add-nodes k p ps = elim (truth (splits len thresholds k (length (p ∷ ps)))) [
    | holds e ↦ rw (add-splits bytes_of len thresholds k p ps e, e) (omega (arith, split-nodes bytes_of k (p ∷ ps) none))
    | fails e ↦ rw (add-stays bytes_of len thresholds k p ps e, e) refl
  ]

  mutual
    unfolding insert nodes needed

    pub insert-nodes : (k p : ℕ) (t : Tree) → nodes (insert bytes_of len thresholds k p t) ≡ nodes t + needed bytes_of len thresholds k p t
    insert-nodes k p (leaf ps) = add-nodes k p ps
    insert-nodes k p (inner cs) = omega (arith, insert_in-nodes k p cs)

    pub insert_in-nodes : (k p : ℕ) (cs : Children) → nodes_in (insert_in bytes_of len thresholds k p cs) ≡ nodes_in cs + needed_in bytes_of len thresholds k p cs
    insert_in-nodes k p none = omega (arith, add-nodes (suc k) p [])
    insert_in-nodes k p (child c t cs) = elim (compared (byte_at bytes_of k p) c) [
      | less l s ↦ rw s.lt (omega (arith, add-nodes (suc k) p []))
      | same l s ↦ rw (s.lt, s.eq) (omega (arith, insert-nodes (suc k) p t))
      | more l s ↦ rw (s.lt, s.eq) (omega (arith, insert_in-nodes k p cs))
    ]

  -- a gap takes a leaf, and one more where that leaf splits at once
  pub gap-nodes : (k p : ℕ) → suc (split_nodes bytes_of len thresholds k (p ∷ [])) ≡ cond (ltb k len && eqb (get_or thresholds k 0) 0) 2 1
  unfolding split_nodes splits
  gap-nodes k p = rw (distinct-one bytes_of k p, one (get_or thresholds k 0)) (go (ltb k len && eqb (get_or thresholds k 0) 0))
    where
      one : (h : ℕ) → ltb h 1 ≡ eqb h 0
      one zero = refl
      one (suc h) = le-ltb (suc h) 1 (omega arith) ∙ sym (ne_eqb (suc h) 0 (omega arith))

      go : (q : Bool) → suc (cond q 1 0) ≡ cond q 2 1
      go true = refl
      go false = refl

-- ---- a removal
prune-nodes : (c f : ℕ) (t : Tree) (cs : Children) → nodes_in (prune c t cs) + cond (filled t) f (suc f) ≡ nodes t + f + nodes_in cs
unfolding prune nodes filled
prune-nodes c f (leaf []) cs = omega arith
prune-nodes c f (leaf (p ∷ ps)) cs = omega arith
prune-nodes c f (inner ds) cs = omega arith

shrunk-nodes : (cs ds : Children) → nodes (shrunk cs ds) ≡ suc (nodes_in ds)
unfolding shrunk nodes
shrunk-nodes none ds = refl
shrunk-nodes (child c t cs) none = refl
shrunk-nodes (child c t cs) (child d u ds) = refl

module _ (bytes_of : ℕ → List ℕ) where
  mutual
    unfolding remove nodes frees

    pub remove-nodes : (k p : ℕ) (t : Tree) → nodes (remove bytes_of k p t) + frees bytes_of k p t ≡ nodes t
    remove-nodes k p (leaf ps) = refl
    remove-nodes k p (inner cs) = omega (arith, shrunk-nodes cs (remove_in bytes_of k p cs), remove_in-nodes k p cs)

    pub remove_in-nodes : (k p : ℕ) (cs : Children) → nodes_in (remove_in bytes_of k p cs) + frees_in bytes_of k p cs ≡ nodes_in cs
    remove_in-nodes k p none = refl
    remove_in-nodes k p (child c t cs) = elim (compared (byte_at bytes_of k p) c) [
      | less l s ↦ rw s.eq (omega (arith, remove_in-nodes k p cs))
      | same l s ↦ rw s.eq (omega (arith, prune-nodes c (frees bytes_of (suc k) p t) (remove bytes_of (suc k) p t) cs, remove-nodes (suc k) p t))
      | more l s ↦ rw s.eq (omega (arith, remove_in-nodes k p cs))
    ]
