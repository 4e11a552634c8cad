-- A subtree among the children of a node at the place of its byte: what stands beside it, and what the tables hold after it was put there
-- and after it was taken out.
use Prim.Native.Nat.{ℕ, ◌+◌, ◌<◌, ◌≤◌}
use mathlib.Core.Path.{◌≡◌}
use mathlib.Core.List.{List}
use native.Mathlib.Omega.{arith}
use lib.ListN.{get_or, length-set}
use Rattle.layout.specs.Nodes.{chain_word, with_link, most_nodes}
use Rattle.layout.specs.Tables.{NodeTable}
use Rattle.children.specs.Heap.{Cells, Heap, node, ◌⊕◌}
use Rattle.children.specs.Places.{link_at}
use Rattle.children.specs.Links.{put_in, take_out}
use Rattle.children.specs.Phys.{Phys, Kids, root, cells, kid_cells}
use Rattle.children.proofs.Frame.{Less, less, Same, same-swap, node-write}
use Rattle.children.proofs.Held.{gap, held}
use Rattle.children.proofs.Spot.{SpotK}

module _ (cap pcap base : ℕ) (small : cap ≤ most_nodes) {ks : Kids} {n b : ℕ} (s : SpotK cap pcap base small ks n b) where
  abbrev slot_word : ℕ → Cells
  slot_word l = node s.slot (chain_word s.byte l)

  -- the chain word of a child of the byte
  abbrev pub kid_word : ℕ
  kid_word = chain_word b s.next

  -- what stands in the node beside the tree of its child m of the byte
  abbrev pub siblings : ℕ → Cells
  siblings m = slot_word (m + 1) ⊕ node m kid_word ⊕ s.rest

  pub child-same : (u : Phys) → Same (kid_cells cap base (s.put (held u)) n) (cells cap base u ⊕ siblings (root u))
  child-same u =
      let q = s.same (held u) in
      record {
        to = record {
          holds = λ N P h. let o = q.to.holds N P h in (o.1.0.1, (o.0, (o.1.0.0, o.1.1)));
          nodes = λ a. omega (arith, q.to.nodes a);
          pages = λ a. omega (arith, q.to.pages a);
        };
        back = record {
          holds = λ N P h. q.back.holds N P (h.1.0, ((h.1.1.0, h.0), h.1.1.1));
          nodes = λ a. omega (arith, q.back.nodes a);
          pages = λ a. omega (arith, q.back.pages a);
        };
      }

  module _ (R : Cells) (u : Phys) where
    abbrev X : Cells
    X = s.rest ⊕ cells cap base u ⊕ R

    -- a subtree beside the node, with its chain word, becomes a child
    apart : (v : ℕ) → Less (node (root u) v ⊕ cells cap base u ⊕ kid_cells cap base (s.put gap) n ⊕ R) (node (root u) v ⊕ slot_word s.next ⊕ X)
    apart v =
        let p = (s.same gap).to in
        record {
          holds = λ N P h. let o = p.holds N P h.1.1.0 in (h.0, (o.0, (o.1.1, (h.1.0, h.1.1.1))));
          nodes = λ a. omega (arith, p.nodes a);
          pages = λ a. omega (arith, p.pages a);
        }

    together : Less (slot_word (root u + 1) ⊕ node (root u) kid_word ⊕ X) (kid_cells cap base (s.put (held u)) n ⊕ R)
    together =
        let p = (child-same u).back in
        record {
          holds = λ N P h. (p.holds N P (h.1.1.1.0, (h.0, (h.1.0, h.1.1.0))), h.1.1.1.1);
          nodes = λ a. omega (arith, p.nodes a);
          pages = λ a. omega (arith, p.pages a);
        }

    pub put-in : {N P : List ℕ} (v : ℕ) → NodeTable cap N → n < cap → root u < cap → Heap N P (node (root u) v ⊕ cells cap base u ⊕ kid_cells cap base (s.put gap) n ⊕ R) →
        Heap (put_in N s.slot (root u) b) P (kid_cells cap base (s.put (held u)) n ⊕ R)
    put-in {N} {P} v t ln lu h =
        let h0 : Heap N P (node (root u) v ⊕ slot_word s.next ⊕ X) = less (apart v) h in
        let l : s.next ≤ cap = s.short in
        let w : get_or N s.slot 0 ≡ chain_word s.byte s.next = h0.holds.1.0 in
        let y : chain_word b (link_at N s.slot) ≡ chain_word b s.next = omega arith in
        let z : with_link (get_or N s.slot 0) (root u + 1) ≡ chain_word s.byte (root u + 1) = omega arith in
        let h1 = node-write (chain_word b s.next) h0 (omega (arith, t.long)) in
        let h2 = less (same-swap (node (root u) kid_word) (slot_word s.next) X).to h1 in
        less together (rw (y, z) (node-write (chain_word s.byte (root u + 1)) h2 (simp length-set (omega (arith, t.long, s.within ln)))))

    -- a child is taken out: it stands beside the node, with its chain word
    whole : Less (kid_cells cap base (s.put (held u)) n ⊕ R) (slot_word (root u + 1) ⊕ node (root u) kid_word ⊕ X)
    whole =
        let p = (child-same u).to in
        record {
          holds = λ N P h. let o = p.holds N P h.0 in (o.1.0, (o.1.1.0, (o.1.1.1, (o.0, h.1))));
          nodes = λ a. omega (arith, p.nodes a);
          pages = λ a. omega (arith, p.pages a);
        }

    parted : Less (slot_word s.next ⊕ node (root u) kid_word ⊕ X) (node (root u) kid_word ⊕ cells cap base u ⊕ kid_cells cap base (s.put gap) n ⊕ R)
    parted =
        let p = (s.same gap).back in
        record {
          holds = λ N P h. (h.1.0, (h.1.1.1.0, (p.holds N P (h.0, (tt, h.1.1.0)), h.1.1.1.1)));
          nodes = λ a. omega (arith, p.nodes a);
          pages = λ a. omega (arith, p.pages a);
        }

    pub take_out_lem : {N P : List ℕ} → NodeTable cap N → n < cap → root u < cap → Heap N P (kid_cells cap base (s.put (held u)) n ⊕ R) →
        Heap (take_out N s.slot (root u)) P (node (root u) kid_word ⊕ cells cap base u ⊕ kid_cells cap base (s.put gap) n ⊕ R)
    take_out_lem {N} {P} t ln lu h =
        let h0 = less whole h in
        let l : s.next ≤ cap = s.short in
        let w : get_or N s.slot 0 ≡ chain_word s.byte (root u + 1) = h0.holds.0 in
        let v : get_or N (root u) 0 ≡ chain_word b s.next = h0.holds.1.0 in
        let x : with_link (get_or N s.slot 0) (link_at N (root u)) ≡ chain_word s.byte s.next = omega arith in
        less parted (rw x (node-write (chain_word s.byte s.next) h0 (omega (arith, t.long, s.within ln))))
