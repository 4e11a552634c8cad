-- On a state with an empty leaf at the end of a page's way, `prune_up` takes out the nodes that have lost their last child.
use Prim.Native.Nat.{ℕ, zero, suc, ◌+◌, ◌<◌, ◌≤◌}
use native.Mathlib.Nat.{zero-add}
use native.Mathlib.Omega.{arith}
use mathlib.Core.Path.{◌≡◌, refl, ap, ◌∙◌, sym, subst}
use mathlib.Core.Bool.{true, false}
use mathlib.Core.List.{List, [], ◌∷◌}
use lib.ListN.{length, set, length-set}
use Rattle.meaning.specs.Trie.{leaf, inner, shrunk, byte_at, remove, nodes, nodes_in}
use Rattle.layout.specs.Nodes.{state_at, inner_state, empty_state, most_nodes}
use Rattle.children.specs.Heap.{Cells, node, ◌⊕◌}
use Rattle.children.specs.Order.{bare}
use Rattle.children.specs.Phys.{Phys, Kids, no_kid, kid, root, tree, children_of, no_kids, free_cells, cells, State, leaf_p, inner_p}
use Rattle.children.proofs.Frame.{Less}
use Rattle.children.proofs.Held.{gap, held}
use Rattle.children.proofs.Kids.{root_below}
use Rattle.children.proofs.Bare.{held-bare, not-bare}
use Rattle.children.proofs.Spot.{SpotK}
use Rattle.children.proofs.Spots.{spot-has, spot-child, spot-drop}
use Rattle.trie_laws.specs.Path.{subtree, replace, path_of}
use Rattle.trie_laws.proofs.Children.{drop-nodes, shrunk-some, shrunk-last}
use Rattle.trie_laws.proofs.Path.{remove-emptied, remove-at-inner, replace-nodes}
use Rattle.trie.specs.Model.{free_child}
use Rattle.trie.specs.declared.path.Passed.{Passed}
use Rattle.trie.specs.Descend.{passed}
use Rattle.trie.proofs.Context.{enter}
use Rattle.trie.proofs.Restate.{restate}
use Rattle.trie.proofs.Way.{Way, go-out}
use Rattle.trie.proofs.Arrival.{Linked, way_to, put-below}
use Rattle.trie.proofs.Free.{free-state}
use Rattle.trie_remove.specs.Prune.{Freed, freed, prune_up}
use Rattle.trie_remove.proofs.Prunes.{up-stop, up-on}

-- an inner node without children is made an empty leaf
module _ {cap pcap base : ℕ} {N P : List ℕ} {free n : ℕ} {fs : List ℕ} {G : Cells} (st : State cap pcap base N P free (inner_p n no_kid) fs G) where
  leaf-state : State cap pcap base (set N (state_at cap n) empty_state) P free (leaf_p n []) fs G
  leaf-state =
      restate empty_state st st.sound.0 (st.sound.0, tt) apart together
    where
      R : Cells
      R = no_kids cap n ⊕ free_cells cap fs ⊕ G

      apart : Less (cells cap base (inner_p n no_kid) ⊕ free_cells cap fs ⊕ G) (node (state_at cap n) inner_state ⊕ R)
      apart = record { holds = λ N P h. search; nodes = λ a. omega arith; pages = λ a. omega arith }

      together : Less (node (state_at cap n) empty_state ⊕ R) (cells cap base (leaf_p n []) ⊕ free_cells cap fs ⊕ G)
      together = record { holds = λ N P h. search; nodes = λ a. omega arith; pages = λ a. omega arith }

-- ---- nodes counted
module _ (cap pcap base : ℕ) (small : cap ≤ most_nodes) where
  kids-count : {ks : Kids} {n b : ℕ} (s : SpotK cap pcap base small ks n b) (u : Phys) → s.there ≡ held u →
      nodes_in (children_of ks) ≡ nodes_in (children_of (s.put gap)) + nodes (tree u)
  kids-count {ks} {b = b} s u e =
      omega (
        arith,
        drop-nodes b (children_of ks) (spot-has cap pcap base small s u e),
        ap nodes_in (spot-drop cap pcap base small s u e),
        ap nodes (spot-child cap pcap base small s u e),
      )

  pub way-count : (bytes_of : ℕ → List ℕ) (p : ℕ) {t : Phys} {k : ℕ} {u : Phys} (w : Way cap pcap base small bytes_of p t k u) (v : Phys) →
      nodes (tree (w.context.put v)) + nodes (tree u) ≡ nodes (tree t) + nodes (tree v)
  way-count bytes_of p {t} {k} w v =
      omega (arith, ap nodes (w.rep v), ap nodes w.sub, replace-nodes (tree v) (path_of bytes_of 0 p k) (tree t) w.path)

-- ---- the way up
-- what it comes to: page p is out of t, whose subtree u had become a single node
pub record UpDone (cap pcap base : ℕ) (bytes_of : ℕ → List ℕ) (p : ℕ) (N P : List ℕ) (t u : Phys) (fs : List ℕ) (G : Cells) (o : Freed) : Type 0 where
  pub nodes_to : List ℕ
  pub free_to : ℕ
  pub trie_to : Phys
  pub frees_to : List ℕ
  pub is : o ≡ freed nodes_to free_to
  pub state : State cap pcap base nodes_to P free_to trie_to frees_to G
  pub root : root trie_to ≡ root t
  pub removed : tree trie_to ≡ remove bytes_of 0 p (tree t)
  pub count : length frees_to + nodes (tree trie_to) + nodes (tree u) ≡ length fs + nodes (tree t) + 1
  pub nodes_length : length nodes_to ≡ length N

-- `way` has the nodes above
module _ {cap pcap base : ℕ} (small : cap ≤ most_nodes) (bytes_of : ℕ → List ℕ) (p : ℕ) (t : Phys) (way : ℕ → Passed)
    (right : (j : ℕ) (v : Phys) (r : ℕ) → Linked cap pcap base small bytes_of p t j v r → way j ≡ passed (root v) r) where
  abbrev to : (k : ℕ) (u : Phys) (s : ℕ) → Linked cap pcap base small bytes_of p t k u s → Way cap pcap base small bytes_of p t k u
  to = way_to cap pcap base small bytes_of p t

  -- a root that is emptied is an empty leaf
  at_top : (u : Phys) (s : ℕ) (l : Linked cap pcap base small bytes_of p t 0 u s) → remove bytes_of 0 p (tree u) ≡ leaf [] → {N P : List ℕ} {free : ℕ} {fs : List ℕ} {G : Cells} →
      State cap pcap base N P free ((to 0 u s l).context.put (leaf_p (root u) [])) fs G → UpDone cap pcap base bytes_of p N P t u fs G (prune_up N cap way 0 (root u) s free)
  unfolding prune_up subtree replace path_of nodes
  at_top u s l e {N} {free} {fs} st =
      let w = to 0 u s l in
      record {
        nodes_to = N;
        free_to = free;
        trie_to = w.context.put (leaf_p (root u) []);
        frees_to = fs;
        is = refl;
        state = st;
        root = w.context.roots (leaf_p (root u) []) refl;
        removed = w.rep (leaf_p (root u) []) ∙ sym e ∙ ap (remove bytes_of 0 p) (sym w.sub);
        count = omega (arith, way-count cap pcap base small bytes_of p w (leaf_p (root u) []));
        nodes_length = refl;
      }

  -- the child u of a node is an empty leaf: it is freed
  module _ {j : ℕ} {u : Phys} {s : ℕ} (a : Linked cap pcap base small bytes_of p t (suc j) u s) (e : remove bytes_of (suc j) p (tree u) ≡ leaf [])
      {N P : List ℕ} {free : ℕ} {fs : List ℕ} {G : Cells} (st : State cap pcap base N P free ((to (suc j) u s a).context.put (leaf_p (root u) [])) fs G) where
    abbrev parent : Phys
    parent = inner_p a.node a.kids

    abbrev w : Way cap pcap base small bytes_of p t j parent
    w = to j parent a.above a.linked

    abbrev M : List ℕ
    M = free_child N cap s (root u) free

    below : root u < cap
    below = root_below cap pcap u (to (suc j) u s a).sound

    freed-state : State cap pcap base M P (root u + 1) (inner_p a.node (a.spot.put gap)) (root u ∷ fs) (w.context.rest ⊕ G)
    freed-state =
        let with : Phys = inner_p a.node (a.spot.put (held (leaf_p (root u) []))) in
        let b : State cap pcap base N P free (w.context.put with) fs G =
        subst (λ (v : Phys). State cap pcap base N P free v fs G) (put-below cap pcap base small bytes_of p t j u s a (leaf_p (root u) [])) st in
        let i = enter cap pcap base small (λ k. byte_at bytes_of k p) w.context with refl b (w.sound.0, a.spot.sound (held (leaf_p (root u) [])) (below, tt)) in
        rw a.slot at (free-state cap pcap base small a.spot i below)

    -- what is left of the node
    left : remove bytes_of j p (tree parent) ≡ shrunk (children_of a.kids) (children_of (a.spot.put gap))
    left =
        remove-emptied bytes_of p j (children_of a.kids) (spot-has cap pcap base small a.spot u a.here)
        (ap (remove bytes_of (suc j) p) (spot-child cap pcap base small a.spot u a.here) ∙ e)
        ∙ ap (shrunk (children_of a.kids)) (sym (spot-drop cap pcap base small a.spot u a.here))

    here : way j ≡ passed a.node a.above
    here = right j parent a.above a.linked

    -- it has another child
    module _ (b : ℕ) (v : Phys) (ks : Kids) (z : a.spot.put gap ≡ kid b v ks) where
      abbrev rest : Phys
      rest = inner_p a.node (a.spot.put gap)

      other : bare M cap a.node ≡ false
      other =
          not-bare M P cap a.node pcap b v ks (rw z at (a.spot.sound gap tt)) (rw z at freed-state.heap.holds.0.1.0)

      stops : UpDone cap pcap base bytes_of p N P t u fs G (prune_up N cap way (suc j) (root u) s free)
      unfolding nodes free_child
      stops =
          let x : remove bytes_of j p (tree parent) ≡ inner (children_of (a.spot.put gap)) = left ∙ rw z (shrunk-some (children_of a.kids) b (tree v) (children_of ks)) in
          record {
            nodes_to = M;
            free_to = root u + 1;
            trie_to = w.context.put rest;
            frees_to = root u ∷ fs;
            is = up-stop N cap way j (root u) s free (ap (λ (y : Passed). bare M cap y.node) here ∙ other);
            state = go-out cap pcap base small bytes_of p w rest refl freed-state;
            root = w.context.roots rest refl;
            removed = w.rep rest ∙ sym (remove-at-inner bytes_of p j 0 (tree t) w.path (children_of a.kids) (children_of (a.spot.put gap)) w.sub (rw (zero-add j) x));
            count = omega (arith, way-count cap pcap base small bytes_of p w rest, kids-count cap pcap base small a.spot u a.here);
            nodes_length = simp length-set;
          }

    -- it was the last child: the node is an empty leaf
    module _ (z : a.spot.put gap ≡ no_kid) where
      abbrev emptied_nodes : List ℕ
      emptied_nodes = set M (state_at cap a.node) empty_state

      childless : State cap pcap base M P (root u + 1) (inner_p a.node no_kid) (root u ∷ fs) (w.context.rest ⊕ G)
      childless = subst (λ (ks : Kids). State cap pcap base M P (root u + 1) (inner_p a.node ks) (root u ∷ fs) (w.context.rest ⊕ G)) z freed-state

      emptied : State cap pcap base emptied_nodes P (root u + 1) (w.context.put (leaf_p a.node [])) (root u ∷ fs) G
      emptied = go-out cap pcap base small bytes_of p w (leaf_p a.node []) refl (leaf-state childless)

      gone : remove bytes_of j p (tree parent) ≡ leaf []
      gone = left ∙ rw z (shrunk-last (byte_at bytes_of j p) (children_of a.kids) (spot-has cap pcap base small a.spot u a.here))

      goes_on : UpDone cap pcap base bytes_of p emptied_nodes P t parent (root u ∷ fs) G (prune_up emptied_nodes cap way j a.node a.above (root u + 1)) →
          UpDone cap pcap base bytes_of p N P t u fs G (prune_up N cap way (suc j) (root u) s free)
      unfolding nodes free_child
      goes_on d =
          let bared : bare M cap (way j).node ≡ true = ap (λ (y : Passed). bare M cap y.node) here ∙ held-bare M P cap a.node childless.heap.holds.0.1.0 in
          let none : nodes_in (children_of (a.spot.put gap)) ≡ 0 = rw z refl in
          record {
            nodes_to = d.nodes_to;
            free_to = d.free_to;
            trie_to = d.trie_to;
            frees_to = d.frees_to;
            is =
                up-on N cap way j (root u) s free bared
                ∙ ap (λ (y : Passed). prune_up (set M (state_at cap y.node) empty_state) cap way j y.node y.slot (root u + 1)) here ∙ d.is;
            state = d.state;
            root = d.root;
            removed = d.removed;
            count = omega (arith, d.count, kids-count cap pcap base small a.spot u a.here, none);
            nodes_length = d.nodes_length ∙ simp length-set;
          }

  pub up_right : (k : ℕ) (u : Phys) (s : ℕ) (l : Linked cap pcap base small bytes_of p t k u s) → remove bytes_of k p (tree u) ≡ leaf [] →
      (N P : List ℕ) (free : ℕ) (fs : List ℕ) (G : Cells) → State cap pcap base N P free ((to k u s l).context.put (leaf_p (root u) [])) fs G →
      UpDone cap pcap base bytes_of p N P t u fs G (prune_up N cap way k (root u) s free)
  up_right zero u s l e N P free fs G st = at_top u s l e st
  up_right (suc j) u s l e N P free fs G st = go (l.spot.put gap) refl (up_right j (inner_p l.node l.kids) l.above l.linked)
    where
      go : (ks : Kids) → l.spot.put gap ≡ ks →
          (remove bytes_of j p (tree (inner_p l.node l.kids)) ≡ leaf [] → (N P : List ℕ) (free : ℕ) (fs : List ℕ) (G : Cells) →
          State cap pcap base N P free ((to j (inner_p l.node l.kids) l.above l.linked).context.put (leaf_p l.node [])) fs G →
          UpDone cap pcap base bytes_of p N P t (inner_p l.node l.kids) fs G (prune_up N cap way j l.node l.above free)) →
          UpDone cap pcap base bytes_of p N P t u fs G (prune_up N cap way (suc j) (root u) s free)
      go no_kid z more = goes_on l e st z (more (gone l e st z) (emptied_nodes l e st z) P (root u + 1) (root u ∷ fs) G (emptied l e st z))
      go (kid b v ks) z more = stops l e st b v ks z
