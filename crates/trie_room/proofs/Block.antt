-- On tables that hold a trie, `nodes_needed` is `needed`.
use Rattle.std.specs.Prelude.{Some, Option, None}
use Prim.Native.Nat.{ℕ, suc, ◌<◌, ◌≤◌}
use native.Mathlib.Nat.{zero-add}
use native.Mathlib.Omega.{arith}
use mathlib.Core.Path.{◌≡◌, refl, sym, ap, ◌∙◌, subst}
use mathlib.Core.Bool.{Bool, true, false, cond, ◌&&◌}
use mathlib.Core.List.{List, [], ◌∷◌}
use lib.Dec.{ltb, leb, eqb}
use lib.ListN.{length, get_or}
use borrow.Author.Tests.{ltb-true, lt-ltb, le-ltb, leb-true, leb-false}
use Rattle.meaning.specs.Lists.{any, count}
use Rattle.meaning.specs.Trie.{byte_at, pages_in}
use Rattle.meaning.specs.Ledger.{Settings}
use Rattle.layout.specs.Nodes.{most_nodes}
use Rattle.layout.specs.States.{kind_of, first_of, count_of}
use Rattle.blocks.specs.declared.Rows.{Rows}
use Rattle.children.specs.Heap.{Cells, ◌⊕◌}
use Rattle.blocks.specs.Packed.{page_byte, level_at}
use Rattle.children.specs.Phys.{Phys, root, tree, children_of, first, Below, State, leaf_p}
use Rattle.children.proofs.Leaves.{held-kind, held-count}
use Rattle.trie.proofs.Context.{enter}
use Rattle.trie.proofs.Spans.{Linked, pages-linked, leaf-most}
use Rattle.trie_laws.specs.Sound.{Agree}
use Rattle.trie_laws.specs.Path.{path_of}
use Rattle.trie_laws.specs.Needed.{distinct, splits, split_nodes, needed}
use Rattle.trie_laws.proofs.Lists.{any-count}
use Rattle.trie_laws.proofs.Reach.{subtree-count}
use Rattle.trie_laws.proofs.Path.{needed-at-leaf, needed-at-gap}
use Rattle.trie_laws.proofs.Nodes.{gap-nodes}
use Rattle.trie.specs.declared.path.Reach.{Reach}
use Rattle.trie.specs.declared.path.Reach.TheVariants.{Leaf, Gap}
use Rattle.trie.specs.Descend.{descend_to}
use Rattle.children.proofs.Spots.{spot-none}
use Rattle.trie.proofs.Way.{Way}
use Rattle.trie.proofs.Arrival.{Leads, Arrives, arrives}
use Rattle.blocks.specs.RowBytes.{row_bytes, rows_of}
use Rattle.leaf_bytes.specs.Bytes.{distinct_bytes}
use Rattle.trie_room.specs.Needs.{leaf_needs, gap_needs, needed_at, nodes_needed}
use Rattle.blocks.proofs.RowBytes.{level-byte}
use Rattle.trie_room.proofs.Distinct.{distinct-right}

module _ (bytes_of : ℕ → List ℕ) (P S τ : List ℕ) (pcap base : ℕ) (r : Rows) (Y : List ℕ) (p : ℕ) (bytes : (k : ℕ) → k < length Y → byte_at bytes_of k p ≡ get_or Y k 0) where
  -- a leaf that holds ps
  leaf-right : (k : ℕ) (ps : List ℕ) → Linked P base ps → Below pcap ps → length ps ≤ pcap →
      ((x : ℕ) → any (eqb x) ps ≡ true → byte_at bytes_of k x ≡ page_byte S (level_at r k) x) →
      cond (ltb k (length Y)) (leaf_needs P S τ pcap base r k (length ps) (first ps) (get_or Y k 0)) (Some 0) ≡ Some (split_nodes bytes_of (length Y) τ k (p ∷ ps))
  unfolding leaf_needs split_nodes splits
  leaf-right k ps h b l e = go (ltb k (length Y)) refl (leb (get_or τ k 0) (length ps)) refl
    where
      long : (q : Bool) → leb (get_or τ k 0) (length ps) ≡ q → ltb (get_or τ k 0) (suc (length ps)) ≡ q
      long true z = lt-ltb (get_or τ k 0) (suc (length ps)) (omega (arith, leb-true (get_or τ k 0) (length ps) z))
      long false z = le-ltb (get_or τ k 0) (suc (length ps)) (omega (arith, leb-false (get_or τ k 0) (length ps) z))

      go : (i : Bool) → ltb k (length Y) ≡ i → (q : Bool) → leb (get_or τ k 0) (length ps) ≡ q →
          cond i (cond q (distinct_bytes P S pcap base (level_at r k) (first ps) (get_or Y k 0)) (Some 0)) (Some 0)
          ≡ Some (cond (i && ltb (get_or τ k 0) (suc (length ps))) (distinct bytes_of k (p ∷ ps)) 0)
      go false y q z = refl
      go true y true z = rw (long true z, ← (bytes k (ltb-true k (length Y) y))) (distinct-right bytes_of P S pcap base k p (level_at r k) ps h b l e)
      go true y false z = rw (long false z) refl

-- a gap
gap-right : (bytes_of : ℕ → List ℕ) (τ : List ℕ) (len p k : ℕ) → gap_needs τ len k ≡ suc (split_nodes bytes_of len τ k (p ∷ []))
unfolding gap_needs
gap-right bytes_of τ len p k = sym (gap-nodes bytes_of len τ k p)

module _ {cap pcap base : ℕ} (small : cap ≤ most_nodes) (bytes_of : ℕ → List ℕ) (p : ℕ) {N P : List ℕ} {free : ℕ} {t : Phys} {fs : List ℕ} {G : Cells}
    (st : State cap pcap base N P free t fs G) where
  -- a subtree lies in the tables too
  part : {k : ℕ} {u : Phys} (w : Way cap pcap base small bytes_of p t k u) → State cap pcap base N P free u fs (w.context.rest ⊕ G)
  part {u = u} w =
      enter cap pcap base small (λ j. byte_at bytes_of j p) w.context u refl
      (subst (λ (x : Phys). State cap pcap base N P free x fs G) (sym w.is) st) w.sound

  -- a leaf's pages are pages of the trie
  inside : {k n : ℕ} {ps : List ℕ} → Way cap pcap base small bytes_of p t k (leaf_p n ps) → (x : ℕ) → any (eqb x) ps ≡ true → any (eqb x) (pages_in (tree t)) ≡ true
  unfolding pages_in
  inside {k} {n} {ps} w x m =
      let some : 0 < count (eqb x) ps = ltb-true 0 (count (eqb x) ps) (sym (any-count (eqb x) ps) ∙ m) in
      let most : count (eqb x) ps ≤ count (eqb x) (pages_in (tree t)) = rw w.sub at (subtree-count (eqb x) (path_of bytes_of 0 p k) (tree t) w.path) in
      any-count (eqb x) (pages_in (tree t)) ∙ lt-ltb 0 (count (eqb x) (pages_in (tree t))) (omega arith)

  module _ {Y : List ℕ} (y : Leads bytes_of p (tree t) Y) (S τ : List ℕ) (r : Rows)
      (reads : (k x : ℕ) → any (eqb x) (pages_in (tree t)) ≡ true → byte_at bytes_of k x ≡ page_byte S (level_at r k) x) where
    -- where a descent has arrived
    pub at_right : (g : Option Reach) → Arrives cap pcap base small bytes_of p t g → needed_at P S τ pcap base r Y N cap g ≡ Some (needed bytes_of (length Y) τ 0 p (tree t))
    at_right (Some (Leaf at)) a =
        let ps : List ℕ = a.pages in
        let u = part a.way in
        let link : first_of (kind_of N cap at.node) ≡ first ps = ap first_of (held-kind N cap at.node ps u.heap.holds.0.0 u.sound.1 u.page_table.small) in
        let many : count_of N cap at.node ≡ length ps = held-count N cap at.node ps u.heap.holds.0.0 u.sound.1 u.page_table.small in
        rw (link, many, needed-at-leaf bytes_of (length Y) τ p at.level 0 (tree t) a.way.path ps a.way.sub, zero-add at.level)
        (leaf-right bytes_of P S τ pcap base r Y p y.bytes at.level ps (pages-linked N P base ps u.heap.holds.0.1.1) u.sound.1 (leaf-most u)
        (λ x m. reads at.level x (inside a.way x m)))
    at_right (Some (Gap at)) a =
        rw (needed-at-gap bytes_of (length Y) τ p at.level 0 (tree t) a.way.path (children_of a.kids) a.way.sub (rw (zero-add at.level) (spot-none cap pcap base small a.spot a.none)), zero-add at.level)
        (ap Some (gap-right bytes_of τ (length Y) p (suc at.level)))
    at_right None a = absurd a

    pub needed-right : nodes_needed P S τ pcap base r Y N cap (root t) ≡ Some (needed bytes_of (length Y) τ 0 p (tree t))
    unfolding nodes_needed
    needed-right = at_right (descend_to N cap (root t) Y) (arrives cap pcap base small bytes_of p st y)

module _ {cap pcap base : ℕ} {N P : List ℕ} {free : ℕ} {t : Phys} {fs : List ℕ} {G : Cells} (st : State cap pcap base N P free t fs G) where
  -- the law of `nodes_needed` in block j: the trie's pages have the bytes of their rows there
  pub needed-block : (bytes_of : ℕ → List ℕ) (p : ℕ) {Y : List ℕ} → Leads bytes_of p (tree t) Y → (S τ : List ℕ) (s : Settings) (j : ℕ) → j < s.blocks →
      Agree bytes_of (row_bytes s j S) (pages_in (tree t)) → nodes_needed P S τ pcap base (rows_of s j) Y N cap (root t) ≡ Some (needed bytes_of (length Y) τ 0 p (tree t))
  unfolding byte_at
  needed-block bytes_of p y S τ s j h e =
      needed-right st.node_table.small bytes_of p st y S τ (rows_of s j) (λ k x m. ap (λ (ys : List ℕ). get_or ys k 0) (e x m) ∙ level-byte s j h S k x)
