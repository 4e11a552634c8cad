-- A page out of a leaf that holds it: what `remove_at` comes to, and the state with the leaf that is left.
use Rattle.std.specs.Prelude.{Some, Ok}
use Prim.Native.Nat.{ℕ, suc, ◌+◌, ◌<◌}
use native.Mathlib.Omega.{arith}
use mathlib.Core.Path.{◌≡◌, refl, ap, ◌∙◌, sym}
use mathlib.Core.Bool.{Bool, true, false, cond}
use mathlib.Core.List.{List, [], ◌∷◌}
use lib.Dec.{eqb}
use lib.ListN.{length, set, length-set}
use Rattle.meaning.specs.Lists.{any}
use Rattle.meaning.specs.Trie.{without}
use Rattle.layout.specs.Nodes.{state_at, empty_state, leaf_state}
use Rattle.layout.specs.States.{kind_of, first_of, count_of, shorter}
use Rattle.layout.proofs.States.{shorter-is}
use Rattle.children.specs.Heap.{Cells, node, page, ◌⊕◌}
use Rattle.children.specs.Phys.{first, page_cells, no_kids, free_cells, cells, Below, State, leaf_p}
use Rattle.children.proofs.Leaves.{held-kind, held-count}
use Rattle.children.proofs.Frame.{Less, less, node-write, nodes-kept, pages-kept}
use Rattle.trie_remove.specs.Take.{take_page}
use Rattle.trie.specs.declared.path.Passed.{Passed}
use Rattle.trie_remove.specs.Prune.{prune_up}
use Rattle.trie_remove.specs.Remove.{shorten_leaf, remove_at, Gone, gone, gone_to}
use Rattle.trie_remove.proofs.Steps.{shorten-some, shorten-none, out-to}
use Rattle.trie_remove.proofs.Take.{one_less, TakeDone, take-right}

-- what taking page p out of leaf c, at level k, comes to: where the leaf has no pages left, nodes are freed from it on up
pub record LeafDone (cap pcap base : ℕ) (N P : List ℕ) (free : ℕ) (way : ℕ → Passed) (c p s k : ℕ) (ps fs : List ℕ) (G : Cells) (o : Gone) : Type 0 where
  pub nodes_to : List ℕ
  pub pages_to : List ℕ
  pub link_to : ℕ
  pub state : State cap pcap base nodes_to pages_to free (leaf_p c (without p ps)) fs (page (base + p) link_to ⊕ G)
  pub full : 0 < first (without p ps) → o ≡ gone nodes_to pages_to (Some free)
  pub emptied : first (without p ps) ≡ 0 → o ≡ gone_to pages_to (prune_up nodes_to cap way k c s free)
  pub nodes_length : length nodes_to ≡ length N
  pub pages_length : length pages_to ≡ length P

below-without : (m p : ℕ) (ps : List ℕ) → Below m ps → Below m (without p ps)
unfolding without
below-without m p [] l = tt
below-without m p (x ∷ ps) l = go (eqb x p) (below-without m p ps l.1)
  where
    go : (q : Bool) → Below m (without p ps) → Below m (cond q (without p ps) (x ∷ without p ps))
    go true h = h
    go false h = (l.0, h)

-- the state with one page less, where some are left, and where none is
module _ (N : List ℕ) (cap c : ℕ) where
  some_left : (qs : List ℕ) → count_of N cap c ≡ suc (length qs) → 0 < first qs → set N (state_at cap c) (leaf_state (length qs) (first qs)) ≡ shorter N cap c (first qs)
  some_left [] e z = absurd (omega arith)
  some_left (q ∷ qs) e z = sym (shorter-is N cap c (length qs) (q + 1) e)

  none_left : (qs : List ℕ) → first qs ≡ 0 → set N (state_at cap c) (leaf_state (length qs) (first qs)) ≡ set N (state_at cap c) empty_state
  none_left [] z = refl
  none_left (q ∷ qs) z = absurd (omega arith)

module _ {cap pcap base : ℕ} {N P : List ℕ} {free c : ℕ} {ps fs : List ℕ} {G : Cells} (st : State cap pcap base N P free (leaf_p c ps) fs G) (way : ℕ → Passed) (p s k : ℕ) (m : any (eqb p) ps ≡ true) where
  R : Cells
  R = no_kids cap c ⊕ free_cells cap fs ⊕ G

  apart : Less (cells cap base (leaf_p c ps) ⊕ free_cells cap fs ⊕ G) (page_cells base ps ⊕ node (state_at cap c) (leaf_state (length ps) (first ps)) ⊕ R)
  unfolding R
  apart = record { holds = λ N P h. search; nodes = λ a. omega arith; pages = λ a. omega arith }

  module _ (qs : List ℕ) (v : ℕ) where
    loose : Less (page_cells base qs ⊕ page (base + p) v ⊕ node (state_at cap c) (leaf_state (length ps) (first ps)) ⊕ R) (node (state_at cap c) (leaf_state (length ps) (first ps)) ⊕ page_cells base qs ⊕ page (base + p) v ⊕ R)
    loose = record { holds = λ N P h. search; nodes = λ a. omega arith; pages = λ a. omega arith }

    together : Less (node (state_at cap c) (leaf_state (length qs) (first qs)) ⊕ page_cells base qs ⊕ page (base + p) v ⊕ R) (cells cap base (leaf_p c qs) ⊕ free_cells cap fs ⊕ page (base + p) v ⊕ G)
    unfolding R
    together = record { holds = λ N P h. search; nodes = λ a. omega arith; pages = λ a. omega arith }

  word : first_of (kind_of N cap c) ≡ first ps
  word = ap first_of (held-kind N cap c ps st.heap.holds.0.0 st.sound.1 st.page_table.small)

  number : count_of N cap c ≡ suc (length (without p ps))
  number = held-count N cap c ps st.heap.holds.0.0 st.sound.1 st.page_table.small ∙ one_less p base ps (less apart st.heap) m

  done : TakeDone N P base p ps (node (state_at cap c) (leaf_state (length ps) (first ps)) ⊕ R) (take_page P pcap base (first_of (kind_of N cap c)) p)
  done = rw word (take-right pcap base p st.page_table ps (less apart st.heap) st.sound.1 m)

  -- whichever page it is, the leaf's first page is the first of those left
  taken : remove_at N P cap pcap base way c s k p free ≡ gone_to done.pages_to (shorten_leaf N cap way c s k (first (without p ps)) free)
  taken =
      out-to N P cap pcap base way c s k p free (first_of (kind_of N cap c)) refl done.pages_to (Ok (first (without p ps))) (sym done.is)
      (first (without p ps)) refl

  pub leaf-right : LeafDone cap pcap base N P free way c p s k ps fs G (remove_at N P cap pcap base way c s k p free)
  leaf-right =
      let t = st.node_table in
      let lc : c < cap = st.sound.0 in
      record {
        nodes_to = M;
        pages_to = done.pages_to;
        link_to = done.link_to;
        state = record {
          node_table = nodes-kept (simp length-set) t;
          page_table = pages-kept done.length st.page_table;
          heap = less (together qs done.link_to) (node-write (leaf_state (length qs) (first qs)) (less (loose qs done.link_to) done.heap) (omega (arith, t.long)));
          sound = (lc, below-without pcap p ps st.sound.1);
          chain = st.chain;
          below = st.below;
        };
        full = λ z. taken ∙ ap (gone_to done.pages_to) (sym (shorten-some N cap way c s k (first qs) free M (some_left N cap c qs number z) z));
        emptied = λ z. taken ∙ ap (gone_to done.pages_to) (sym (shorten-none N cap way c s k (first qs) free M (none_left N cap c qs z) (omega arith) (prune_up M cap way k c s free) refl));
        nodes_length = simp length-set;
        pages_length = done.length;
      }
    where
      qs : List ℕ
      qs = without p ps

      M : List ℕ
      M = set N (state_at cap c) (leaf_state (length qs) (first qs))
