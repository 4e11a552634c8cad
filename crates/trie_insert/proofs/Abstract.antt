-- What insertion does on the abstract trie, as it goes down by a page's bytes.
use Prim.Native.Nat.{ℕ, suc, ◌+◌, ◌≤◌}
use mathlib.Core.Path.{◌≡◌, refl, ◌∙◌, sym}
use mathlib.Core.List.{List, [], ◌∷◌}
use mathlib.Core.Bool.{Bool, true, false, cond, ◌&&◌}
use native.Mathlib.Omega.{arith}
use borrow.Author.Tests.{le-ltb, lt-ltb, eq-eqb, ne_eqb}
use lib.Dec.{ltb, eqb}
use lib.ListN.{length, get_or}
use Rattle.meaning.specs.Trie.{Tree, leaf, inner, Children, none, child, byte_at, push, put_leaf, split, add_leaf, insert, insert_in, nodes, nodes_in}
use Rattle.children.proofs.Abstract.{Skips, Above, Leaves}
use Rattle.trie.proofs.Abstract.{Kept, Walks}
use Rattle.trie_laws.proofs.Nodes.{push-nodes}

-- a page put into the child leaf of a byte
pub put-skips : (b p : ℕ) → Skips b (put_leaf b p)
unfolding put_leaf
put-skips b p c t cs l = rw (le-ltb b c (omega arith), ne_eqb b c (omega arith)) refl

pub put-here : (b p : ℕ) (t : Tree) (cs : Children) → put_leaf b p (child b t cs) ≡ child b (push p t) cs
unfolding put_leaf
put-here b p t cs = rw (le-ltb b b (omega arith), eq-eqb b b refl) refl

pub put-new : (b p : ℕ) (cs : Children) → Above b cs → put_leaf b p cs ≡ child b (leaf (p ∷ [])) cs
unfolding put_leaf
put-new b p none l = refl
put-new b p (child c t cs) l = rw (lt-ltb b c l) refl

-- insertion
module _ (bytes_of : ℕ → List ℕ) (p len : ℕ) (τ : List ℕ) where
  pub insert-skips : (k : ℕ) → Skips (byte_at bytes_of k p) (insert_in bytes_of len τ k p)
  unfolding insert
  insert-skips k c t cs l = rw (le-ltb (byte_at bytes_of k p) c (omega arith), ne_eqb (byte_at bytes_of k p) c (omega arith)) refl

  insert-here : (k : ℕ) (t : Tree) (cs : Children) → insert_in bytes_of len τ k p (child (byte_at bytes_of k p) t cs) ≡ child (byte_at bytes_of k p) (insert bytes_of len τ (suc k) p t) cs
  unfolding insert
  insert-here k t cs = rw (le-ltb (byte_at bytes_of k p) (byte_at bytes_of k p) (omega arith), eq-eqb (byte_at bytes_of k p) (byte_at bytes_of k p) refl) refl

  pub insert-new : (k : ℕ) (cs : Children) → Above (byte_at bytes_of k p) cs → insert_in bytes_of len τ k p cs ≡ child (byte_at bytes_of k p) (add_leaf bytes_of len τ (suc k) p []) cs
  unfolding insert
  insert-new k none l = refl
  insert-new k (child c t cs) l = rw (lt-ltb (byte_at bytes_of k p) c l) refl

  pub insert-empty : (k : ℕ) (cs : Children) → Above (byte_at bytes_of k p) cs → insert_in bytes_of len τ k p (child (byte_at bytes_of k p) (leaf []) cs) ≡ insert_in bytes_of len τ k p cs
  unfolding insert
  insert-empty k cs l = insert-here k (leaf []) cs ∙ sym (insert-new k cs l)

  pub insert-walks : Walks (λ k. byte_at bytes_of k p) (λ k. insert bytes_of len τ k p)
  unfolding insert
  insert-walks = record { below = λ k. insert_in bytes_of len τ k p; inside = λ k cs. refl; skips = insert-skips; here = λ k t cs z. insert-here k t cs }

-- putting pages in keeps leaves leaves, and takes no node away
pub leaves-put : (b p : ℕ) (cs : Children) → Leaves cs → Leaves (put_leaf b p cs)
unfolding put_leaf push
leaves-put b p none h = tt
leaves-put b p (child c (inner ds) cs) h = absurd h
leaves-put b p (child c (leaf ps) cs) h = go (leaves-put b p cs h) (ltb b c) (eqb b c)
  where
    go : Leaves (put_leaf b p cs) → (q r : Bool) → Leaves (cond q (child b (leaf (p ∷ [])) (child c (leaf ps) cs)) (cond r (child c (push p (leaf ps)) cs) (child c (leaf ps) (put_leaf b p cs))))
    go more true r = h
    go more false true = h
    go more false false = more

pub put-grows : (b p : ℕ) (cs : Children) → nodes_in cs ≤ nodes_in (put_leaf b p cs)
unfolding put_leaf nodes
put-grows b p none = omega arith
put-grows b p (child c t cs) = go (put-grows b p cs) (ltb b c) (eqb b c)
  where
    go : nodes_in cs ≤ nodes_in (put_leaf b p cs) → (q r : Bool) →
        nodes t + nodes_in cs ≤ nodes_in (cond q (child b (leaf (p ∷ [])) (child c t cs)) (cond r (child c (push p t) cs) (child c t (put_leaf b p cs))))
    go more true r = omega arith
    go more false true = omega (arith, push-nodes p t)
    go more false false = omega arith

pub split-grows : (bytes_of : ℕ → List ℕ) (k : ℕ) (ps : List ℕ) (cs : Children) → nodes_in cs ≤ nodes_in (split bytes_of k ps cs)
unfolding split
split-grows bytes_of k [] cs = omega arith
split-grows bytes_of k (p ∷ ps) cs = omega (arith, put-grows (byte_at bytes_of k p) p cs, split-grows bytes_of k ps (put_leaf (byte_at bytes_of k p) p cs))

-- a leaf that a page was put into is not empty
pub kept-add : (bytes_of : ℕ → List ℕ) (len : ℕ) (τ : List ℕ) (k p : ℕ) (ps : List ℕ) → Kept (add_leaf bytes_of len τ k p ps)
unfolding add_leaf
kept-add bytes_of len τ k p ps = go (ltb k len && ltb (get_or τ k 0) (suc (length ps)))
  where
    go : (q : Bool) → Kept (cond q (inner (split bytes_of k (p ∷ ps) none)) (leaf (p ∷ ps)))
    go true = tt
    go false = tt
