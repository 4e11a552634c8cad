-- An empty child leaf out of its parent and first among the free nodes: `free_child` keeps the state.
use Prim.Native.Nat.{ℕ, ◌+◌, ◌<◌, ◌≤◌}
use native.Mathlib.Omega.{arith}
use mathlib.Core.Path.{refl}
use mathlib.Core.List.{List, [], ◌∷◌}
use lib.ListN.{length-set}
use Rattle.layout.specs.Nodes.{state_at, free_state, inner_state, empty_state, most_nodes}
use Rattle.children.specs.Heap.{Cells, node, ◌⊕◌}
use Rattle.children.specs.Phys.{Kids, first, no_kids, free_cells, cells, kid_cells, State, leaf_p, inner_p}
use Rattle.children.proofs.Frame.{Less, less, same-swap, node-write, nodes-kept}
use Rattle.children.proofs.Held.{gap, held}
use Rattle.children.proofs.Spot.{SpotK}
use Rattle.children.proofs.Joins.{kid_word, take_out_lem}
use Rattle.trie.specs.Model.{free_child}

module _ (cap pcap base : ℕ) (small : cap ≤ most_nodes) {N P : List ℕ} {free n c b : ℕ} {ks : Kids} {fs : List ℕ} {G : Cells}
    (s : SpotK cap pcap base small ks n b) (st : State cap pcap base N P free (inner_p n (s.put (held (leaf_p c [])))) fs G) (lc : c < cap) where
  R : Cells
  R = node (state_at cap n) inner_state ⊕ free_cells cap fs ⊕ G

  apart : Less (cells cap base (inner_p n (s.put (held (leaf_p c [])))) ⊕ free_cells cap fs ⊕ G) (kid_cells cap base (s.put (held (leaf_p c []))) n ⊕ R)
  unfolding R
  apart = record { holds = λ N P h. search; nodes = λ a. omega arith; pages = λ a. omega arith }

  -- the leaf beside its parent
  module _ (v : ℕ) where
    abbrev S : Cells
    S = no_kids cap c ⊕ kid_cells cap base (s.put gap) n ⊕ R

    loose : Less (node c v ⊕ cells cap base (leaf_p c []) ⊕ kid_cells cap base (s.put gap) n ⊕ R) (node (state_at cap c) empty_state ⊕ node c v ⊕ S)
    loose = record { holds = λ N P h. search; nodes = λ a. omega arith; pages = λ a. omega arith }

    together : Less (node c (first fs) ⊕ node (state_at cap c) free_state ⊕ S) (cells cap base (inner_p n (s.put gap)) ⊕ free_cells cap (c ∷ fs) ⊕ G)
    unfolding R
    together = record { holds = λ N P h. search; nodes = λ a. omega arith; pages = λ a. omega arith }

  pub free-state : State cap pcap base (free_child N cap s.slot c free) P (c + 1) (inner_p n (s.put gap)) (c ∷ fs) G
  unfolding free_child
  free-state =
      let t = st.node_table in
      let h = take_out_lem cap pcap base small s R (leaf_p c []) t st.sound.0 lc (less apart st.heap) in
      let v : ℕ = kid_word cap pcap base small s in
      let h1 = node-write free_state (less (loose v) h) (simp length-set (omega (arith, t.long))) in
      let h2 = less (same-swap (node (state_at cap c) free_state) (node c v) (S v)).to h1 in
      record {
        node_table = nodes-kept (simp length-set) t;
        page_table = st.page_table;
        heap = less (together v) (rw (← st.chain) (node-write free h2 (simp length-set (omega (arith, t.long)))));
        sound = (st.sound.0, s.sound gap tt);
        chain = refl;
        below = (lc, st.below);
      }
