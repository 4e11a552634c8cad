-- A page put first into a leaf: `push_page` keeps the state.
use Prim.Native.Nat.{ℕ, suc, ◌+◌, ◌<◌, ◌≤◌}
use mathlib.Core.Path.{◌≡◌, refl, sym}
use Rattle.std.specs.Prelude.{Ok}
use mathlib.Core.List.{List, ◌∷◌}
use native.Mathlib.Omega.{arith}
use lib.ListN.{length, get_or, set, length-set}
use Rattle.layout.specs.Nodes.{state_at, leaf_state}
use Rattle.layout.specs.States.{kind_of}
use Rattle.layout.specs.Pages.{most_pages}
use Rattle.layout.proofs.States.{longer-is}
use Rattle.children.specs.Heap.{Cells, Heap, node, page, ◌⊕◌}
use Rattle.children.specs.Phys.{first, page_cells, no_kids, free_cells, cells, State, leaf_p}
use Rattle.children.proofs.Frame.{Less, less, same-swap, node-write, page-write, nodes-kept, pages-kept}
use Rattle.children.proofs.Leaves.{held-kind, held-count}
use Rattle.trie.proofs.Spans.{pages-most}
use Rattle.trie_insert.specs.Pages.{push_nodes, push_pages, push_page, pushed}
use Rattle.trie_insert.proofs.Steps.{push-done}

module _ {cap pcap base : ℕ} {N P : List ℕ} {free c p v : ℕ} {ps fs : List ℕ} {G : Cells}
    (st : State cap pcap base N P free (leaf_p c ps) fs (page (base + p) v ⊕ G)) (lp : p < pcap) where
  R : Cells
  R = no_kids cap c ⊕ page_cells base ps ⊕ free_cells cap fs ⊕ G

  apart : Less (cells cap base (leaf_p c ps) ⊕ free_cells cap fs ⊕ page (base + p) v ⊕ G) (page (base + p) v ⊕ node (state_at cap c) (leaf_state (length ps) (first ps)) ⊕ R)
  unfolding R
  apart = record { holds = λ N P h. search; nodes = λ a. omega arith; pages = λ a. omega arith }

  together : Less (node (state_at cap c) (leaf_state (suc (length ps)) (p + 1)) ⊕ page (base + p) (first ps) ⊕ R) (cells cap base (leaf_p c (p ∷ ps)) ⊕ free_cells cap fs ⊕ G)
  unfolding R
  together = record { holds = λ N P h. search; nodes = λ a. omega arith; pages = λ a. omega arith }

  word : get_or N (state_at cap c) 0 ≡ leaf_state (length ps) (first ps)
  word = st.heap.holds.0.0

  -- the number is not full
  few : length ps < most_pages
  few =
      let small : pcap ≤ most_pages = st.page_table.small in
      omega (arith, pages-most base pcap (p ∷ ps) (lp, st.sound.1) (λ a. omega (arith, st.heap.pages a)))

  one_more : push_nodes N cap c p ≡ set N (state_at cap c) (leaf_state (suc (length ps)) (p + 1))
  one_more = longer-is N cap c (length ps) (p + 1) (held-count N cap c ps word st.sound.1 st.page_table.small) few

  pub push_ok : push_page N P cap base c p ≡ pushed (push_nodes N cap c p) (push_pages P base p (first ps)) (Ok tt)
  push_ok =
      sym (push-done N P cap base c p (kind_of N cap c) refl (first ps) (held-kind N cap c ps word st.sound.1 st.page_table.small) (push_nodes N cap c p) refl)

  pub push-state : State cap pcap base (push_nodes N cap c p) (push_pages P base p (first ps)) free (leaf_p c (p ∷ ps)) fs G
  push-state =
      rw one_more
      let t = st.node_table in
      let s = st.page_table in
      let lc : c < cap = st.sound.0 in
      let h1 : Heap N (set P (base + p) (first ps)) (page (base + p) (first ps) ⊕ node (state_at cap c) (leaf_state (length ps) (first ps)) ⊕ R) = page-write (first ps) (less apart st.heap) (omega arith) in
      let h2 = node-write (leaf_state (suc (length ps)) (p + 1)) (less (same-swap (page (base + p) (first ps)) (node (state_at cap c) (leaf_state (length ps) (first ps))) R).to h1) (omega arith) in
      record {
        node_table = nodes-kept (simp length-set) t;
        page_table = pages-kept (simp length-set) s;
        heap = less together h2;
        sound = (lc, (lp, st.sound.1));
        chain = st.chain;
        below = st.below;
      }
