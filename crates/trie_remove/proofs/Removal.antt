-- On a state with a sound trie that has the page, `remove_page` is `remove`; the nodes that it takes out are free.
use Rattle.std.specs.Prelude.{Some, Option, None}
use Prim.Native.Nat.{ℕ, zero, suc, ◌+◌, ◌<◌, ◌≤◌}
use native.Mathlib.Omega.{arith}
use mathlib.Core.Path.{◌≡◌, refl, ap, ◌∙◌, sym, subst}
use mathlib.Core.Bool.{true}
use mathlib.Core.List.{List, [], ◌∷◌}
use lib.Dec.{eqb}
use lib.ListN.{length}
use Rattle.meaning.specs.Lists.{any}
use Rattle.meaning.specs.Trie.{leaf, inner, without, remove, nodes, pages_in}
use Rattle.layout.specs.Nodes.{most_nodes}
use Rattle.children.specs.Heap.{Cells, page, ◌⊕◌}
use Rattle.children.specs.Phys.{Phys, root, tree, children_of, first, State, leaf_p}
use Rattle.children.proofs.Frame.{same-swap}
use Rattle.trie.proofs.Context.{beside}
use Rattle.trie_laws.specs.Sound.{filled, sound_trie}
use Rattle.trie_laws.specs.Path.{subtree, path_of, depth}
use Rattle.trie_laws.proofs.Path.{remove-at-leaf}
use Rattle.trie_laws.proofs.Reach.{reach-leaf}
use Rattle.trie.specs.declared.path.Reach.{Reach}
use Rattle.trie.specs.declared.path.Reach.TheVariants.{Leaf, Gap}
use Rattle.trie.specs.declared.path.Passed.{Passed}
use Rattle.trie.specs.Descend.{descend_to, passed, passed_at}
use Rattle.trie.proofs.Way.{Way, go-in, go-out}
use Rattle.trie.proofs.Arrival.{Leads, Linked, way_to, Arrives, arrives, passes}
use Rattle.trie_remove.specs.Remove.{remove_at, remove_page, Gone, gone, gone_to}
use Rattle.trie_remove.proofs.Steps.{remove-leaf}
use Rattle.trie_remove.proofs.Leaf.{LeafDone, leaf-right}
use Rattle.trie_remove.proofs.Up.{way-count, up_right}

-- what removing page p from t comes to: the page's link is left over
pub record RemoveDone (cap pcap base : ℕ) (bytes_of : ℕ → List ℕ) (p : ℕ) (N P : List ℕ) (t : Phys) (fs : List ℕ) (G : Cells) (o : Gone) : Type 0 where
  pub nodes_to : List ℕ
  pub pages_to : List ℕ
  pub free_to : ℕ
  pub trie_to : Phys
  pub frees_to : List ℕ
  pub link_to : ℕ
  pub is : o ≡ gone nodes_to pages_to (Some free_to)
  pub state : State cap pcap base nodes_to pages_to free_to trie_to frees_to (page (base + p) link_to ⊕ G)
  pub root : root trie_to ≡ root t
  pub removed : tree trie_to ≡ remove bytes_of 0 p (tree t)
  pub count : length frees_to + nodes (tree trie_to) ≡ length fs + nodes (tree t)
  pub nodes_length : length nodes_to ≡ length N
  pub pages_length : length pages_to ≡ length P

first-full : (qs : List ℕ) → 0 < first qs → filled (leaf qs) ≡ true
unfolding filled
first-full [] h = absurd (omega arith)
first-full (q ∷ qs) h = refl

first-empty : (qs : List ℕ) → first qs ≡ 0 → qs ≡ []
first-empty [] h = refl
first-empty (q ∷ qs) h = absurd (omega arith)

module _ {cap pcap base : ℕ} (small : cap ≤ most_nodes) (bytes_of : ℕ → List ℕ) (p : ℕ) {N P : List ℕ} {free : ℕ} {t : Phys} {fs : List ℕ} {G : Cells} (st : State cap pcap base N P free t fs G)
    (way : ℕ → Passed) (right : (j : ℕ) (v : Phys) (r : ℕ) → Linked cap pcap base small bytes_of p t j v r → way j ≡ passed (root v) r) where
  -- at a leaf
  module _ (k n s : ℕ) (ps : List ℕ) (l : Linked cap pcap base small bytes_of p t k (leaf_p n ps) s) (m : any (eqb p) ps ≡ true) where
    abbrev w : Way cap pcap base small bytes_of p t k (leaf_p n ps)
    w = way_to cap pcap base small bytes_of p t k (leaf_p n ps) s l

    done : LeafDone cap pcap base N P free way n p s k ps fs (w.context.rest ⊕ G) (remove_at N P cap pcap base way n s k p free)
    done = leaf-right (go-in cap pcap base small bytes_of p w st) way p s k m

    abbrev left : Phys
    left = leaf_p n (without p ps)

    back : State cap pcap base done.nodes_to done.pages_to free (w.context.put left) fs (page (base + p) done.link_to ⊕ G)
    back = go-out cap pcap base small bytes_of p w left refl (beside (same-swap (page (base + p) done.link_to) w.context.rest G).to done.state)

    -- that keeps a page
    stays : 0 < first (without p ps) → RemoveDone cap pcap base bytes_of p N P t fs G (remove_at N P cap pcap base way n s k p free)
    unfolding nodes
    stays z =
        record {
          nodes_to = done.nodes_to;
          pages_to = done.pages_to;
          free_to = free;
          trie_to = w.context.put left;
          frees_to = fs;
          link_to = done.link_to;
          is = done.full z;
          state = back;
          root = w.context.roots left refl;
          removed = w.rep left ∙ sym (remove-at-leaf bytes_of p k 0 (tree t) w.path ps w.sub (first-full (without p ps) z));
          count = omega (arith, way-count cap pcap base small bytes_of p w left);
          nodes_length = done.nodes_length;
          pages_length = done.pages_length;
        }

    -- that keeps none
    goes : first (without p ps) ≡ 0 → RemoveDone cap pcap base bytes_of p N P t fs G (remove_at N P cap pcap base way n s k p free)
    unfolding remove nodes
    goes z =
        let e : without p ps ≡ [] = first-empty (without p ps) z in
        let G' : Cells = page (base + p) done.link_to ⊕ G in
        let b = subst (λ (qs : List ℕ). State cap pcap base done.nodes_to done.pages_to free (w.context.put (leaf_p n qs)) fs G') e back in
        let d = up_right small bytes_of p t way right k (leaf_p n ps) s l (ap leaf e) done.nodes_to done.pages_to free fs G' b in
        record {
          nodes_to = d.nodes_to;
          pages_to = done.pages_to;
          free_to = d.free_to;
          trie_to = d.trie_to;
          frees_to = d.frees_to;
          link_to = done.link_to;
          is = done.emptied z ∙ ap (gone_to done.pages_to) d.is;
          state = d.state;
          root = d.root;
          removed = d.removed;
          count = omega (arith, d.count);
          nodes_length = d.nodes_length ∙ done.nodes_length;
          pages_length = done.pages_length;
        }

    at_leaf : RemoveDone cap pcap base bytes_of p N P t fs G (remove_at N P cap pcap base way n s k p free)
    at_leaf = go (first (without p ps)) refl
      where
        go : (x : ℕ) → first (without p ps) ≡ x → RemoveDone cap pcap base bytes_of p N P t fs G (remove_at N P cap pcap base way n s k p free)
        go zero z = goes z
        go (suc x) z = stays (omega arith)

-- the law of `remove_page`
module _ {cap pcap base : ℕ} (bytes_of : ℕ → List ℕ) (p : ℕ) {N P : List ℕ} {free : ℕ} {t : Phys} {fs : List ℕ} {G : Cells} (st : State cap pcap base N P free t fs G) {Y : List ℕ}
    (y : Leads bytes_of p (tree t) Y) (bits symbols len : ℕ) (sound : sound_trie bytes_of bits symbols len 0 (tree t) ≡ true) (stands : any (eqb p) (pages_in (tree t)) ≡ true) where
  abbrev small : cap ≤ most_nodes
  small = st.node_table.small

  abbrev way : ℕ → Passed
  way = passed_at N cap (root t) Y

  -- the page stands in the leaf where its bytes lead
  reached : (k : ℕ) → depth bytes_of 0 p (tree t) ≡ k → (ps : List ℕ) × (subtree (path_of bytes_of 0 p k) (tree t) ≡ leaf ps) × (any (eqb p) ps ≡ true)
  reached k e = rw e at (reach-leaf bytes_of bits symbols len p 0 (tree t) sound stands)

  pub remove-right : RemoveDone cap pcap base bytes_of p N P t fs G (remove_page N P cap pcap base (root t) Y p free)
  remove-right = go (descend_to N cap (root t) Y) refl (arrives cap pcap base small bytes_of p st y)
    where
      go : (r : Option Reach) → r ≡ descend_to N cap (root t) Y → Arrives cap pcap base small bytes_of p t r →
          RemoveDone cap pcap base bytes_of p N P t fs G (remove_page N P cap pcap base (root t) Y p free)
      go (Some (Leaf at)) e a =
          let x = reached at.level a.deep in
          let o : leaf a.pages ≡ leaf x.0 = sym a.way.sub ∙ x.1 in
          let q : a.pages ≡ x.0 = cc in
          subst (RemoveDone cap pcap base bytes_of p N P t fs G)
          (remove-leaf N P cap pcap base (root t) Y p free (Some (Leaf at)) e at way (remove_at N P cap pcap base way at.node at.slot at.level p free) refl (λ j l. refl) refl)
          (at_leaf small bytes_of p st way (passes cap pcap base small bytes_of p st y) at.level at.node at.slot a.pages a.linked (rw q x.2))
      go (Some (Gap at)) e a =
          let x = reached at.level a.deep in
          let o : inner (children_of a.kids) ≡ leaf x.0 = sym a.way.sub ∙ x.1 in
          let i : ◌≡◌ {A = ℕ} 0 1 = cc in
          absurd (omega arith)
      go None e a = absurd a
