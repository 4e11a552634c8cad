-- Children by their bytes: what is written is read back; and how insertion and removal change one child.
use Prim.Native.Nat.{ℕ, suc, ◌+◌}
use native.Mathlib.Omega.{arith}
use mathlib.Core.Path.{◌≡◌, refl, sym, ap, ◌∙◌}
use mathlib.Core.Bool.{Bool, true, false, cond, true≢false, false≢true}
use mathlib.Core.List.{List, [], ◌∷◌}
use lib.Dec.{ltb, eqb}
use borrow.Author.Tests.{eqb-true, le-ltb, eq-eqb}
use Rattle.meaning.specs.Lists.{count}
use Rattle.meaning.specs.Trie.{Tree, leaf, inner, Children, none, child, push, put_leaf, prune, shrunk, byte_at, remove, remove_in, add_leaf, insert, insert_in, nodes, nodes_in, pages_in, pages_among}
use Rattle.trie_laws.specs.Sound.{filled, sound_from}
use Rattle.trie_laws.specs.Needed.{split_nodes, needed, needed_in}
use Rattle.trie_laws.specs.Path.{has, child_by, set_child, drop_child, put_child, prune_child}
use Rattle.meaning.proofs.Lists.{count-append}
use Rattle.trie_laws.proofs.Lists.{less, same, more, compared, holds, fails, truth}
use Rattle.trie_laws.proofs.Sound.{SoundBelow, child-parts}

irreflexive : (b : ℕ) → ltb b b ≡ false
irreflexive b = le-ltb b b (omega arith)

reflexive : (b : ℕ) → eqb b b ≡ true
reflexive b = eq-eqb b b refl

-- ---- what is written is read back
module _ (b : ℕ) (u : Tree) where
  pub has-set : (cs : Children) → has b (set_child b u cs) ≡ has b cs
  unfolding has set_child
  has-set none = refl
  has-set (child c t cs) = elim (truth (ltb c b)) [
    | holds e ↦ simp e (has-set cs)
    | fails e ↦ simp e refl
  ]

  pub child-set : (cs : Children) → has b cs ≡ true → child_by b (set_child b u cs) ≡ u
  unfolding has child_by set_child
  child-set none h = absurd (false≢true h)
  child-set (child c t cs) h = elim (truth (ltb c b)) [
    | holds e ↦ simp e (child-set cs (rw e at h))
    | fails e ↦ simp e refl
  ]

  pub set-set : (v : Tree) (cs : Children) → set_child b u (set_child b v cs) ≡ set_child b u cs
  unfolding set_child
  set-set v none = refl
  set-set v (child c t cs) = elim (truth (ltb c b)) [
    | holds e ↦ simp e (ap (child c t) (set-set v cs))
    | fails e ↦ simp e refl
  ]

  pub drop-set : (cs : Children) → drop_child b (set_child b u cs) ≡ drop_child b cs
  unfolding set_child drop_child
  drop-set none = refl
  drop-set (child c t cs) = elim (truth (ltb c b)) [
    | holds e ↦ simp e (ap (child c t) (drop-set cs))
    | fails e ↦ simp e refl
  ]

  pub has-put : (cs : Children) → has b (put_child b u cs) ≡ true
  unfolding has put_child
  has-put none = rw (irreflexive b, reflexive b) refl
  has-put (child c t cs) = elim (truth (ltb c b)) [
    | holds e ↦ simp e (has-put cs)
    | fails e ↦ simp (e, irreflexive b, reflexive b) refl
  ]

  pub child-put : (cs : Children) → child_by b (put_child b u cs) ≡ u
  unfolding child_by put_child
  child-put none = rw (irreflexive b) refl
  child-put (child c t cs) = elim (truth (ltb c b)) [
    | holds e ↦ simp e (child-put cs)
    | fails e ↦ simp (e, irreflexive b) refl
  ]

  pub set-put : (v : Tree) (cs : Children) → set_child b u (put_child b v cs) ≡ put_child b u cs
  unfolding set_child put_child
  set-put v none = rw (irreflexive b) refl
  set-put v (child c t cs) = elim (truth (ltb c b)) [
    | holds e ↦ simp e (ap (child c t) (set-put v cs))
    | fails e ↦ simp (e, irreflexive b) refl
  ]

  pub drop-put : (cs : Children) → drop_child b (put_child b u cs) ≡ cs
  unfolding drop_child put_child
  drop-put none = rw (irreflexive b) refl
  drop-put (child c t cs) = elim (truth (ltb c b)) [
    | holds e ↦ simp e (ap (child c t) (drop-put cs))
    | fails e ↦ simp (e, irreflexive b) refl
  ]

-- with a child changed an inner node stays inner
pub shrunk-set : (b : ℕ) (u : Tree) (cs : Children) → shrunk cs (set_child b u cs) ≡ inner (set_child b u cs)
unfolding shrunk set_child
shrunk-set b u none = refl
shrunk-set b u (child c t cs) = elim (truth (ltb c b)) [
  | holds e ↦ simp e refl
  | fails e ↦ simp e refl
]

-- a child behind the first is sought among the others
child_by-past : (b c : ℕ) (t : Tree) (cs : Children) → ltb c b ≡ true → child_by b (child c t cs) ≡ child_by b cs
unfolding child_by
child_by-past b c t cs e = simp e refl

pub set_same : (b : ℕ) (cs : Children) → set_child b (child_by b cs) cs ≡ cs
unfolding child_by set_child
set_same b none = refl
set_same b (child c t cs) = elim (truth (ltb c b)) [
  | holds e ↦
      let there : set_child b (child_by b cs) (child c t cs) ≡ child c t cs = simp e (ap (child c t) (set_same b cs)) in
      ap (λ (x : Tree). set_child b x (child c t cs)) (child_by-past b c t cs e) ∙ there
  | fails e ↦ simp e refl
]

-- ---- nodes and pages
module _ (b : ℕ) (u : Tree) where
  pub set-nodes : (cs : Children) → has b cs ≡ true → nodes_in (set_child b u cs) + nodes (child_by b cs) ≡ nodes_in cs + nodes u
  unfolding has child_by set_child nodes
  set-nodes none h = absurd (false≢true h)
  set-nodes (child c t cs) h = elim (truth (ltb c b)) [
    | holds e ↦ simp e (omega (arith, set-nodes cs (rw e at h)))
    | fails e ↦ simp e (omega arith)
  ]

module _ (b : ℕ) where
  pub drop-nodes : (cs : Children) → has b cs ≡ true → nodes_in (drop_child b cs) + nodes (child_by b cs) ≡ nodes_in cs
  unfolding has child_by drop_child nodes
  drop-nodes none h = absurd (false≢true h)
  drop-nodes (child c t cs) h = elim (truth (ltb c b)) [
    | holds e ↦ simp e (omega (arith, drop-nodes cs (rw e at h)))
    | fails e ↦ simp e (omega arith)
  ]

  pub drop-count : (q : ℕ → Bool) (cs : Children) → has b cs ≡ true →
      count q (pages_among (drop_child b cs)) + count q (pages_in (child_by b cs)) ≡ count q (pages_among cs)
  unfolding has child_by drop_child pages_in
  drop-count q none h = absurd (false≢true h)
  drop-count q (child c t cs) h = elim (truth (ltb c b)) [
    | holds e ↦ simp (e, count-append q) (omega (arith, drop-count q cs (rw e at h)))
    | fails e ↦ simp (e, count-append q) (omega arith)
  ]

-- a child of a sound node
pub child-sound : (bytes_of : ℕ → List ℕ) (b n len k lo y : ℕ) (cs : Children) → sound_from bytes_of b n len k lo cs ≡ true → has y cs ≡ true →
    SoundBelow bytes_of b n len k y (child_by y cs)
unfolding has child_by
child-sound bytes_of b n len k lo y none h e = absurd (false≢true e)
child-sound bytes_of b n len k lo y (child c t cs) h e =
    let s = child-parts bytes_of b n len k lo c t cs h in
    elim (truth (ltb c y)) [
      | holds l ↦ rw l (child-sound bytes_of b n len k (suc c) y cs s.rest (rw l at e))
      | fails l ↦ rw l (rw (eqb-true c y (rw l at e)) at s.here)
    ]

-- ---- insertions and removals change one child
module _ (b : ℕ) (new : Tree) (f : Tree → Tree) where
  abbrev alter : Children → Children
  alter none = child b new none
  alter (child c t cs) = cond (ltb b c) (child b new (child c t cs)) (cond (eqb b c) (child c (f t) cs) (child c t (alter cs)))

  alter-there : (cs : Children) → has b cs ≡ true → alter cs ≡ set_child b (f (child_by b cs)) cs
  unfolding has child_by set_child
  alter-there none h = absurd (false≢true h)
  alter-there (child c t cs) h = elim (compared b c) [
    | less l s ↦ absurd (true≢false (sym h ∙ rw (s.gt, s.qe) refl))
    | same l s ↦ simp (s.lt, s.gt, s.eq) refl
    | more l s ↦
        let there : alter (child c t cs) ≡ set_child b (f (child_by b cs)) (child c t cs) = simp (s.lt, s.gt, s.eq) (ap (child c t) (alter-there cs (rw s.gt at h))) in
        there ∙ ap (λ (x : Tree). set_child b (f x) (child c t cs)) (sym (child_by-past b c t cs s.gt))
  ]

  alter-gap : (cs : Children) → has b cs ≡ false → alter cs ≡ put_child b new cs
  unfolding has put_child
  alter-gap none h = refl
  alter-gap (child c t cs) h = elim (compared b c) [
    | less l s ↦ simp (s.lt, s.gt) refl
    | same l s ↦ absurd (true≢false (sym (rw (s.gt, s.qe) refl) ∙ h))
    | more l s ↦ simp (s.lt, s.gt, s.eq) (ap (child c t) (alter-gap cs (rw s.gt at h)))
  ]

leaf-alter : (b p : ℕ) (cs : Children) → put_leaf b p cs ≡ alter b (leaf (p ∷ [])) (push p) cs
unfolding put_leaf
leaf-alter b p none = refl
leaf-alter b p (child c t cs) = rw (leaf-alter b p cs) refl

module _ (bytes_of : ℕ → List ℕ) (len : ℕ) (thresholds : List ℕ) (k p : ℕ) where
  insert-alter : (cs : Children) → insert_in bytes_of len thresholds k p cs ≡ alter (byte_at bytes_of k p) (add_leaf bytes_of len thresholds (suc k) p []) (insert bytes_of len thresholds (suc k) p) cs
  unfolding insert
  insert-alter none = refl
  insert-alter (child c t cs) = rw (insert-alter cs) refl

  pub insert-there : (cs : Children) → has (byte_at bytes_of k p) cs ≡ true →
      insert_in bytes_of len thresholds k p cs ≡ set_child (byte_at bytes_of k p) (insert bytes_of len thresholds (suc k) p (child_by (byte_at bytes_of k p) cs)) cs
  insert-there cs h = insert-alter cs ∙ alter-there (byte_at bytes_of k p) (add_leaf bytes_of len thresholds (suc k) p []) (insert bytes_of len thresholds (suc k) p) cs h

  -- where it is missing it is made
  pub insert-gap : (cs : Children) → has (byte_at bytes_of k p) cs ≡ false →
      insert_in bytes_of len thresholds k p cs ≡ put_child (byte_at bytes_of k p) (add_leaf bytes_of len thresholds (suc k) p []) cs
  insert-gap cs h = insert-alter cs ∙ alter-gap (byte_at bytes_of k p) (add_leaf bytes_of len thresholds (suc k) p []) (insert bytes_of len thresholds (suc k) p) cs h

  pub needed-there : (cs : Children) → has (byte_at bytes_of k p) cs ≡ true →
      needed_in bytes_of len thresholds k p cs ≡ needed bytes_of len thresholds (suc k) p (child_by (byte_at bytes_of k p) cs)
  unfolding needed has child_by
  needed-there none h = absurd (false≢true h)
  needed-there (child c t cs) h = elim (compared (byte_at bytes_of k p) c) [
    | less l s ↦ absurd (true≢false (sym h ∙ rw (s.gt, s.qe) refl))
    | same l s ↦ rw (s.lt, s.eq, s.gt) refl
    | more l s ↦ rw (s.lt, s.eq, s.gt) (needed-there cs (rw s.gt at h))
  ]

  pub needed-gap : (cs : Children) → has (byte_at bytes_of k p) cs ≡ false →
      needed_in bytes_of len thresholds k p cs ≡ suc (split_nodes bytes_of len thresholds (suc k) (p ∷ []))
  unfolding needed has
  needed-gap none h = refl
  needed-gap (child c t cs) h = elim (compared (byte_at bytes_of k p) c) [
    | less l s ↦ rw s.lt refl
    | same l s ↦ absurd (true≢false (sym (rw (s.gt, s.qe) refl) ∙ h))
    | more l s ↦ rw (s.lt, s.eq) (needed-gap cs (rw s.gt at h))
  ]

-- a child changed, or gone: the first, or a later one
prune-here : (y c : ℕ) (t u : Tree) (cs : Children) → ltb c y ≡ false → prune c u cs ≡ prune_child y u (child c t cs)
unfolding prune filled prune_child set_child drop_child
prune-here y c t (leaf []) cs l = rw l refl
prune-here y c t (leaf (p ∷ ps)) cs l = rw l refl
prune-here y c t (inner ds) cs l = rw l refl

prune-behind : (y c : ℕ) (t u : Tree) (cs : Children) → ltb c y ≡ true → child c t (prune_child y u cs) ≡ prune_child y u (child c t cs)
unfolding prune_child set_child drop_child
prune-behind y c t u cs l = rw l (go (filled u))
  where
    go : (q : Bool) → child c t (cond q (set_child y u cs) (drop_child y cs)) ≡ cond q (child c t (set_child y u cs)) (child c t (drop_child y cs))
    go true = refl
    go false = refl

-- an inner node that has lost a child: with another one it stays, else it is an empty leaf
pub shrunk-some : (cs : Children) (d : ℕ) (u : Tree) (ds : Children) → shrunk cs (child d u ds) ≡ inner (child d u ds)
unfolding shrunk
shrunk-some none d u ds = refl
shrunk-some (child c t cs) d u ds = refl

pub shrunk-last : (b : ℕ) (cs : Children) → has b cs ≡ true → shrunk cs none ≡ leaf []
unfolding has shrunk
shrunk-last b none h = absurd (false≢true h)
shrunk-last b (child c t cs) h = refl

pub remove-there : (bytes_of : ℕ → List ℕ) (k p : ℕ) (cs : Children) → has (byte_at bytes_of k p) cs ≡ true →
    remove_in bytes_of k p cs ≡ prune_child (byte_at bytes_of k p) (remove bytes_of (suc k) p (child_by (byte_at bytes_of k p) cs)) cs
unfolding remove has child_by
remove-there bytes_of k p none h = absurd (false≢true h)
remove-there bytes_of k p (child c t cs) h =
    let y : ℕ = byte_at bytes_of k p in
    elim (compared y c) [
      | less l s ↦ absurd (true≢false (sym h ∙ rw (s.gt, s.qe) refl))
      | same l s ↦ rw (s.eq, s.gt) (prune-here y c t (remove bytes_of (suc k) p t) cs s.gt)
      | more l s ↦
          rw (s.eq, s.gt)
          (ap (child c t) (remove-there bytes_of k p cs (rw s.gt at h)) ∙ prune-behind y c t (remove bytes_of (suc k) p (child_by y cs)) cs s.gt)
    ]
