-- The first free node as an empty leaf for a byte that is missing: `link_leaf` keeps the state.
use Prim.Native.Nat.{ℕ, ◌-◌, ◌<◌, ◌≤◌}
use mathlib.Core.Path.{◌≡◌, refl, sym, subst}
use Rattle.std.specs.Prelude.{Ok}
use mathlib.Core.List.{List, [], ◌∷◌}
use native.Mathlib.Omega.{arith}
use lib.ListN.{length-set}
use Rattle.layout.specs.Nodes.{state_at, free_state, inner_state, empty_state, most_nodes}
use Rattle.layout.specs.States.{next_free}
use Rattle.children.specs.Heap.{Cells, Heap, node, ◌⊕◌}
use Rattle.trie.specs.Model.{link_leaf, fresh_leaf, made, grown}
use Rattle.children.specs.Phys.{Phys, Kids, first, no_kids, free_cells, cells, kid_cells, State, leaf_p, inner_p}
use Rattle.children.proofs.Frame.{Less, less, node-write, nodes-kept}
use Rattle.trie.proofs.Steps.{fresh-made}
use Rattle.children.proofs.Joins.{put-in}
use Rattle.children.proofs.Held.{gap, held}
use Rattle.children.proofs.Spot.{SpotK}
use Rattle.children.proofs.Spots.{spot-same}

module _ (cap pcap base : ℕ) (small : cap ≤ most_nodes) where
  module _ {N P : List ℕ} {free n f b : ℕ} {ks : Kids} {fs : List ℕ} {G : Cells}
      (st : State cap pcap base N P free (inner_p n ks) (f ∷ fs) G) (s : SpotK cap pcap base small ks n b) (none : s.there ≡ gap) where
    abbrev pub with_leaf : Phys
    with_leaf = inner_p n (s.put (held (leaf_p f [])))

    R : Cells
    R = node (state_at cap n) inner_state ⊕ free_cells cap fs ⊕ G

    apart : Less (cells cap base (inner_p n (s.put gap)) ⊕ free_cells cap (f ∷ fs) ⊕ G) (node (state_at cap f) free_state ⊕ no_kids cap f ⊕ node f (first fs) ⊕ kid_cells cap base (s.put gap) n ⊕ R)
    unfolding R
    apart = record { holds = λ N P h. search; nodes = λ a. omega arith; pages = λ a. omega arith }

    loose : Less (node (state_at cap f) empty_state ⊕ no_kids cap f ⊕ node f (first fs) ⊕ kid_cells cap base (s.put gap) n ⊕ R)
        (node f (first fs) ⊕ cells cap base (leaf_p f []) ⊕ kid_cells cap base (s.put gap) n ⊕ R)
    loose = record { holds = λ N P h. search; nodes = λ a. omega arith; pages = λ a. omega arith }

    together : Less (kid_cells cap base (s.put (held (leaf_p f []))) n ⊕ R) (cells cap base with_leaf ⊕ free_cells cap fs ⊕ G)
    unfolding R
    together = record { holds = λ N P h. search; nodes = λ a. omega arith; pages = λ a. omega arith }

    pub fresh-state : State cap pcap base (link_leaf N cap s.slot f b) P (next_free N f) with_leaf fs G
    unfolding link_leaf
    fresh-state =
        let h = less apart (subst (λ (x : Kids). Heap N P (cells cap base (inner_p n x) ⊕ free_cells cap (f ∷ fs) ⊕ G)) (sym (spot-same cap pcap base small s none)) st.heap) in
        let t = st.node_table in
        let lf : f < cap = st.below.0 in
        let h1 = less loose (node-write empty_state h (omega (arith, t.long))) in
        record {
          heap = less together (put-in cap pcap base small s R (leaf_p f []) (first fs) (nodes-kept (simp length-set) t) st.sound.0 lf h1);
          sound = (st.sound.0, s.sound (held (leaf_p f [])) (lf, tt));
          node_table = nodes-kept (simp length-set) t;
          page_table = st.page_table;
          chain = h.holds.1.1.0;
          below = st.below.1;
        }

    pub fresh-is : fresh_leaf N cap s.slot b free ≡ made (link_leaf N cap s.slot f b) (Ok (grown f (next_free N f)))
    fresh-is =
        let e : free - 1 ≡ f = omega (arith, st.chain) in
        let l : f < cap = st.below.0 in
        sym (rw e at (fresh-made N cap s.slot b free (omega (arith, st.chain)) (link_leaf N cap s.slot (free - 1) b) _ (omega arith) refl refl))
