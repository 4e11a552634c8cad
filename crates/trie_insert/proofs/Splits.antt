-- `split_from` is `split`: the pages of a loose chain go into the leaves below an inner node, if there are free nodes enough.
use Prim.Native.Nat.{ℕ, ◌+◌, ◌-◌, ◌<◌, ◌≤◌}
use mathlib.Core.Path.{◌≡◌, refl, ap, ◌∙◌, sym}
use Rattle.std.specs.Prelude.{Ok}
use mathlib.Core.List.{List, [], ◌∷◌}
use native.Mathlib.Omega.{arith}
use lib.ListN.{length, get_or}
use Rattle.meaning.specs.Trie.{byte_at, put_leaf, split, nodes_in}
use Rattle.layout.specs.Nodes.{most_nodes}
use Rattle.blocks.specs.declared.Level.{Level}
use Rattle.children.specs.Heap.{Cells, page, ◌⊕◌}
use Rattle.blocks.specs.Packed.{page_byte}
use Rattle.children.specs.Phys.{Kids, children_of, first, page_cells, Below, State, inner_p}
use Rattle.children.proofs.Frame.{same-assoc}
use Rattle.children.proofs.Abstract.{Leaves}
use Rattle.children.proofs.Spot.{spot}
use Rattle.trie.proofs.Context.{beside}
use Rattle.trie.specs.Model.{grown}
use Rattle.trie_insert.specs.Pages.{After, put_leaf_m, after}
use Rattle.trie_insert.specs.Split.{split_from}
use Rattle.trie_insert.proofs.Abstract.{leaves-put, split-grows}
use Rattle.trie_insert.proofs.Steps.{split-end, split-next}
use Rattle.trie_insert.proofs.Put.{PutDone, put_right}

-- what `split_from` comes to
pub record SplitDone (bytes_of : ℕ → List ℕ) (cap pcap base n k : ℕ) (ps : List ℕ) (ks : Kids) (fs : List ℕ) (G : Cells) (a : After) : Type 0 where
  pub nodes_to : List ℕ
  pub pages_to : List ℕ
  pub free_to : ℕ
  pub kids_to : Kids
  pub frees_to : List ℕ
  pub is : a ≡ after nodes_to pages_to (Ok (grown n free_to))
  pub state : State cap pcap base nodes_to pages_to free_to (inner_p n kids_to) frees_to G
  pub grown : children_of kids_to ≡ split bytes_of k ps (children_of ks)
  pub count : nodes_in (children_of kids_to) + length frees_to ≡ nodes_in (children_of ks) + length fs

module _ (bytes_of : ℕ → List ℕ) (S : List ℕ) (v : Level) (cap pcap base n k : ℕ) (small : cap ≤ most_nodes)
    (bytes : (p : ℕ) → page_byte S v p < 256) (are : (p : ℕ) → p < pcap → byte_at bytes_of k p ≡ page_byte S v p) where
  -- one page, and then the others
  split-cons : (N P : List ℕ) (free : ℕ) {ks : Kids} {fs : List ℕ} {G : Cells} (p : ℕ) (ps : List ℕ) (l f : ℕ) → l ≡ p + 1 → p < pcap → (f ≡ 0 → ⊥) →
      (D : PutDone cap pcap base n (page_byte S v p) p ks fs (page_cells base ps ⊕ G) (put_leaf_m N P cap base n (page_byte S v p) p free)) →
      SplitDone bytes_of cap pcap base n k ps D.kids_to D.frees_to G (split_from S v cap pcap base n D.nodes_to D.pages_to (get_or P (base + p) 0) D.free_to (f - 1)) →
      SplitDone bytes_of cap pcap base n k (p ∷ ps) ks fs G (split_from S v cap pcap base n N P l free f)
  unfolding split
  split-cons N P free {ks} {fs} {G} p ps l f e lp nz D E =
      let q : l - 1 ≡ p = omega arith in
      let u : after D.nodes_to D.pages_to (Ok (grown D.child D.free_to)) ≡ put_leaf_m N P cap base n (page_byte S v p) (l - 1) free = rw q (sym D.is) in
      let x = split-next S v cap pcap base n N P l free f _ refl nz (omega arith) (omega arith) D.nodes_to D.pages_to (page_byte S v p) _ (rw q refl) u (grown D.child D.free_to) _ refl refl in
      record {
        nodes_to = E.nodes_to;
        pages_to = E.pages_to;
        free_to = E.free_to;
        kids_to = E.kids_to;
        frees_to = E.frees_to;
        is = sym x ∙ rw q E.is;
        state = E.state;
        grown = E.grown ∙ ap (split bytes_of k ps) (D.grown ∙ ap (λ (b : ℕ). put_leaf b p (children_of ks)) (sym (are p lp)));
        count = E.count ∙ D.count;
      }

  pub split-right : {N P : List ℕ} {free : ℕ} {ks : Kids} {fs : List ℕ} {G : Cells} (ps : List ℕ) (l f : ℕ) →
      State cap pcap base N P free (inner_p n ks) fs (page_cells base ps ⊕ G) → Leaves (children_of ks) → Below pcap ps → l ≡ first ps → length ps < f →
      nodes_in (split bytes_of k ps (children_of ks)) ≤ nodes_in (children_of ks) + length fs →
      SplitDone bytes_of cap pcap base n k ps ks fs G (split_from S v cap pcap base n N P l free f)
  unfolding split
  split-right {N} {P} {free} {ks} {fs} {G} [] l f st lv be e lf m =
      record {
        nodes_to = N;
        pages_to = P;
        free_to = free;
        kids_to = ks;
        frees_to = fs;
        is = sym (split-end S v cap pcap base n N P l free f _ refl (omega arith) e);
        state = beside (record { holds = λ N P h. h.1; nodes = λ a. omega arith; pages = λ a. omega arith }) st;
        grown = refl;
        count = refl;
      }
  split-right {N} {P} {free} {ks} {fs} {G} (p ∷ ps) l f st lv be e lf m =
      let a : byte_at bytes_of k p ≡ page_byte S v p = are p be.0 in
      let m' : nodes_in (split bytes_of k ps (put_leaf (page_byte S v p) p (children_of ks))) ≤ nodes_in (children_of ks) + length fs = rw a at m in
      let D = put_right cap pcap base small n (page_byte S v p) p ks (spot cap pcap base small n ks (page_byte S v p) (bytes p) st.sound) be.0
      (beside (same-assoc (page (base + p) (first ps)) (page_cells base ps) G).to st) lv (omega (arith, m', split-grows bytes_of k ps (put_leaf (page_byte S v p) p (children_of ks)))) in
      let z : nodes_in (split bytes_of k ps (children_of D.kids_to)) ≤ nodes_in (children_of ks) + length fs = rw D.grown m' in
      split-cons N P free p ps l f e be.0 (omega arith) D
      (split-right {N = D.nodes_to} {P = D.pages_to} {free = D.free_to} {ks = D.kids_to} {fs = D.frees_to} ps (get_or P (base + p) 0) (f - 1) D.state (rw D.grown (leaves-put (page_byte S v p) p (children_of ks) lv)) be.1 st.heap.holds.1.1.0.0 (omega arith) (omega (arith, D.count, z)))
