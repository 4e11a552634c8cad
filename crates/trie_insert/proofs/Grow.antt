-- A page put into a leaf, which is split where it is too long then: `grow_leaf` is `add_leaf`, if there are free nodes enough.
use Prim.Native.Nat.{ℕ, suc, ◌+◌, ◌<◌, ◌≤◌}
use mathlib.Core.Path.{◌≡◌, refl, ap, sym}
use Rattle.std.specs.Prelude.{Ok}
use mathlib.Core.List.{List, ◌∷◌}
use mathlib.Core.Bool.{Bool, true, false, cond, ◌&&◌}
use native.Mathlib.Omega.{arith}
use borrow.Author.Tests.{ltb-true}
use lib.Dec.{ltb}
use lib.ListN.{length, get_or}
use Rattle.meaning.specs.Trie.{Tree, leaf, inner, none, byte_at, split, add_leaf, nodes, nodes_in}
use Rattle.layout.specs.Nodes.{state_at, inner_state, leaf_state, most_nodes}
use Rattle.blocks.specs.declared.Rows.{Rows}
use Rattle.children.specs.Heap.{Cells, node, page, ◌⊕◌}
use Rattle.blocks.specs.Tables.{RowTable}
use Rattle.blocks.specs.Packed.{page_byte, level_at}
use Rattle.children.specs.Phys.{Phys, no_kid, root, tree, first, page_cells, no_kids, free_cells, cells, State, leaf_p, inner_p}
use Rattle.children.proofs.Frame.{Less}
use Rattle.children.proofs.Leaves.{held-count}
use Rattle.trie.proofs.Restate.{restate}
use Rattle.blocks.proofs.Bytes.{level-table, byte_small}
use Rattle.trie.proofs.Spans.{leaf-most}
use Rattle.trie.specs.Model.{grown}
use Rattle.trie_insert.specs.Pages.{push_nodes, push_pages, push_page, After, pushed, after}
use Rattle.trie_insert.specs.Split.{split_from, open_leaf, too_long, split_leaf, grow_leaf}
use Rattle.trie_insert.proofs.Steps.{grow-short, grow-split}
use Rattle.trie_insert.proofs.Push.{push_ok, push-state}
use Rattle.trie_insert.proofs.Splits.{SplitDone, split-right}

-- what a call that puts a page in comes to: the tree is the wanted one, and no node is lost
pub record Grown (cap pcap base n total : ℕ) (want : Tree) (G : Cells) (a : After) : Type 0 where
  pub nodes_to : List ℕ
  pub pages_to : List ℕ
  pub leaf : ℕ
  pub free_to : ℕ
  pub to : Phys
  pub frees_to : List ℕ
  pub is : a ≡ after nodes_to pages_to (Ok (grown leaf free_to))
  pub state : State cap pcap base nodes_to pages_to free_to to frees_to G
  pub roots : root to ≡ n
  pub grown : tree to ≡ want
  pub count : nodes (tree to) + length frees_to ≡ total

-- a leaf opened: its pages are loose
module _ {cap pcap base : ℕ} {N P : List ℕ} {free n : ℕ} {ps fs : List ℕ} {G : Cells} (st : State cap pcap base N P free (leaf_p n ps) fs G) where
  apart : Less (cells cap base (leaf_p n ps) ⊕ free_cells cap fs ⊕ G) (node (state_at cap n) (leaf_state (length ps) (first ps)) ⊕ no_kids cap n ⊕ free_cells cap fs ⊕ page_cells base ps ⊕ G)
  apart = record { holds = λ N P h. search; nodes = λ a. omega arith; pages = λ a. omega arith }

  together : Less (node (state_at cap n) inner_state ⊕ no_kids cap n ⊕ free_cells cap fs ⊕ page_cells base ps ⊕ G) (cells cap base (inner_p n no_kid) ⊕ free_cells cap fs ⊕ page_cells base ps ⊕ G)
  together = record { holds = λ N P h. ((h.0, (h.1.0, tt)), h.1.1); nodes = λ a. omega arith; pages = λ a. omega arith }

  pub open-state : State cap pcap base (open_leaf N cap n) P free (inner_p n no_kid) fs (page_cells base ps ⊕ G)
  open-state = restate inner_state st st.sound.0 (st.sound.0, tt) apart together

module _ (bytes_of : ℕ → List ℕ) (S τ : List ℕ) (r : Rows) (cap pcap base k : ℕ) (rows : RowTable pcap r S)
    (are : k < r.bytes → (p : ℕ) → p < pcap → byte_at bytes_of k p ≡ page_byte S (level_at r k) p) where
  module _ {N P : List ℕ} {free n p v : ℕ} {ps fs : List ℕ} {G : Cells} (small : cap ≤ most_nodes)
      (st : State cap pcap base N P free (leaf_p n ps) fs (page (base + p) v ⊕ G)) (lp : p < pcap) where
    N1 : List ℕ
    N1 = push_nodes N cap n p

    P1 : List ℕ
    P1 = push_pages P base p (first ps)

    st1 : State cap pcap base N1 P1 free (leaf_p n (p ∷ ps)) fs G
    unfolding N1 P1
    st1 = push-state st lp

    -- whether the leaf is too long
    long : too_long τ r N1 cap k n ≡ (ltb k r.bytes && ltb (get_or τ k 0) (suc (length ps)))
    unfolding too_long
    long = rw (held-count N1 cap n (p ∷ ps) st1.heap.holds.0.0 st1.sound.1 st1.page_table.small) refl

    ok : pushed N1 P1 (Ok tt) ≡ push_page N P cap base n p
    unfolding N1 P1
    ok = sym (push_ok st lp)

    -- it stays a leaf
    grow-leaf : too_long τ r N1 cap k n ≡ false → Grown cap pcap base n (1 + length fs) (leaf (p ∷ ps)) G (grow_leaf S τ r cap pcap base N P k n p free)
    unfolding nodes
    grow-leaf e =
        record {
          nodes_to = N1;
          pages_to = P1;
          leaf = n;
          free_to = free;
          to = leaf_p n (p ∷ ps);
          frees_to = fs;
          is = sym (grow-short S τ r cap pcap base N P k n p free N1 P1 (Ok tt) ok refl false (sym e) refl);
          state = st1;
          roots = refl;
          grown = refl;
          count = refl;
        }

    -- or it is opened, and its pages are split
    grow-inner : too_long τ r N1 cap k n ≡ true → k < r.bytes → nodes_in (split bytes_of k (p ∷ ps) none) ≤ length fs →
        Grown cap pcap base n (1 + length fs) (inner (split bytes_of k (p ∷ ps) none)) G (grow_leaf S τ r cap pcap base N P k n p free)
    unfolding nodes split_leaf
    grow-inner e l m = wrap (split-right bytes_of S (level_at r k) cap pcap base n k small (λ x. byte_small pcap (level_at r k) S x (level-table pcap r S k rows)) (are l) (p ∷ ps) (p + 1) (pcap + 1) (open-state st1) tt st1.sound.1 refl (omega (arith, leaf-most st1)) (omega arith))
      where
        wrap : SplitDone bytes_of cap pcap base n k (p ∷ ps) no_kid fs G (split_from S (level_at r k) cap pcap base n (open_leaf N1 cap n) P1 (p + 1) free (pcap + 1)) →
            Grown cap pcap base n (1 + length fs) (inner (split bytes_of k (p ∷ ps) none)) G (grow_leaf S τ r cap pcap base N P k n p free)
        wrap E =
            record {
              nodes_to = E.nodes_to;
              pages_to = E.pages_to;
              leaf = n;
              free_to = E.free_to;
              to = inner_p n E.kids_to;
              frees_to = E.frees_to;
              is = sym (grow-split S τ r cap pcap base N P k n p free N1 P1 (Ok tt) ok refl true (sym e) refl E.nodes_to E.pages_to (Ok (grown n E.free_to)) (sym E.is));
              state = E.state;
              roots = refl;
              grown = ap inner E.grown;
              count = omega (arith, E.count);
            }

    pub grow-right : nodes (add_leaf bytes_of r.bytes τ k p ps) ≤ 1 + length fs →
        Grown cap pcap base n (1 + length fs) (add_leaf bytes_of r.bytes τ k p ps) G (grow_leaf S τ r cap pcap base N P k n p free)
    unfolding add_leaf nodes
    grow-right m = go (ltb k r.bytes) refl (ltb (get_or τ k 0) (suc (length ps))) long m
      where
        go : (x : Bool) → ltb k r.bytes ≡ x → (y : Bool) → too_long τ r N1 cap k n ≡ (x && y) →
            nodes (cond (x && y) (inner (split bytes_of k (p ∷ ps) none)) (leaf (p ∷ ps))) ≤ 1 + length fs →
            Grown cap pcap base n (1 + length fs) (cond (x && y) (inner (split bytes_of k (p ∷ ps) none)) (leaf (p ∷ ps))) G (grow_leaf S τ r cap pcap base N P k n p free)
        go false e y q m = grow-leaf q
        go true e false q m = grow-leaf q
        go true e true q m = grow-inner q (ltb-true k r.bytes e) (omega arith)
