-- `insert_page` is `insert`, if there are free nodes enough.
use Prim.Native.Nat.{ℕ, suc, ◌+◌, ◌<◌, ◌≤◌}
use mathlib.Core.Path.{◌≡◌, refl, ap, ◌∙◌, sym, subst}
use Rattle.std.specs.Prelude.{Ok, Option, Some, None}
use mathlib.Core.List.{List, [], ◌∷◌}
use native.Mathlib.Omega.{arith}
use native.Mathlib.Numerals.{add-one}
use lib.ListN.{length, get_or}
use Rattle.meaning.specs.Trie.{Tree, leaf, inner, Children, child, byte_at, add_leaf, insert, insert_in, nodes, nodes_in}
use Rattle.layout.specs.Nodes.{most_nodes}
use Rattle.blocks.specs.declared.Rows.{Rows}
use Rattle.children.specs.Heap.{Cells, page, ◌⊕◌}
use Rattle.blocks.specs.Tables.{RowTable}
use Rattle.blocks.specs.Packed.{page_byte, level_at}
use Rattle.trie.specs.Model.{link_leaf, made, grown, fresh_leaf}
use Rattle.children.specs.Phys.{Phys, root, tree, children_of, Sound, State, leaf_p, inner_p}
use Rattle.children.proofs.Frame.{same-swap}
use Rattle.trie.proofs.Context.{Context, inside, enter, leave, beside}
use Rattle.children.proofs.Held.{gap, held}
use Rattle.children.proofs.Spots.{spot-same}
use Rattle.trie.proofs.Fresh.{fresh-state, fresh-is}
use Rattle.trie.specs.declared.path.Reach.{Reach}
use Rattle.trie.specs.declared.path.Reach.TheVariants.{Leaf, Gap}
use Rattle.trie.specs.Descend.{reached, descend_to}
use Rattle.trie.proofs.Way.{go-in}
use Rattle.trie.proofs.Arrival.{Leads, AtLeaf, AtGap, Arrives, arrives}
use Rattle.trie_insert.specs.Split.{grow_leaf}
use Rattle.trie_insert.specs.Insert.{leaf_for, insert_page}
use Rattle.trie_laws.proofs.Nodes.{nodes-some}
use Rattle.trie_insert.proofs.Abstract.{insert-skips, insert-new, insert-empty, insert-walks, kept-add}
use Rattle.trie_insert.proofs.Grow.{Grown, grow-right}

module _ (bytes_of : ℕ → List ℕ) (S τ Y : List ℕ) (r : Rows) (cap pcap base p : ℕ) (rows : RowTable pcap r S) (small : cap ≤ most_nodes) (lp : p < pcap)
    (are : (k : ℕ) → k < r.bytes → (q : ℕ) → q < pcap → byte_at bytes_of k q ≡ page_byte S (level_at r k) q) where
  insert_from : ℕ → Tree → Tree
  insert_from k = insert bytes_of r.bytes τ k p

  abbrev byte : ℕ → ℕ
  byte j = byte_at bytes_of j p

  -- at a leaf on the way
  module _ {N P : List ℕ} {free top k c v : ℕ} {ps fs : List ℕ} {G : Cells} (C : Context cap pcap base small byte 0 top k c)
      (st : State cap pcap base N P free (C.put (leaf_p c ps)) fs (page (base + p) v ⊕ G)) (g : Sound cap pcap (leaf_p c ps)) where
    entered : State cap pcap base N P free (leaf_p c ps) fs (page (base + p) v ⊕ C.rest ⊕ G)
    entered = beside (same-swap C.rest (page (base + p) v) G).to (enter cap pcap base small byte C (leaf_p c ps) refl st g)

    leaf-lift : C.around (add_leaf bytes_of r.bytes τ k p ps) ≡ insert bytes_of r.bytes τ 0 p (C.around (leaf ps))
    unfolding insert_from insert
    leaf-lift = C.lift insert_from (insert-walks bytes_of p r.bytes τ) (leaf ps) (kept-add bytes_of r.bytes τ k p ps)

    pub insert-at : nodes (insert bytes_of r.bytes τ 0 p (C.around (leaf ps))) ≤ nodes (C.around (leaf ps)) + length fs →
        Grown cap pcap base top (nodes (C.around (leaf ps)) + length fs) (insert bytes_of r.bytes τ 0 p (C.around (leaf ps))) G (grow_leaf S τ r cap pcap base N P k c p free)
    unfolding nodes
    insert-at m = wrap (grow-right bytes_of S τ r cap pcap base k rows (are k) small entered lp (omega (arith, C.count (add_leaf bytes_of r.bytes τ k p ps) (leaf ps), rw (← leaf-lift) at m)))
      where
        wrap : Grown cap pcap base c (1 + length fs) (add_leaf bytes_of r.bytes τ k p ps) (C.rest ⊕ G) (grow_leaf S τ r cap pcap base N P k c p free) →
            Grown cap pcap base top (nodes (C.around (leaf ps)) + length fs) (insert bytes_of r.bytes τ 0 p (C.around (leaf ps))) G (grow_leaf S τ r cap pcap base N P k c p free)
        wrap E =
            record {
              nodes_to = E.nodes_to;
              pages_to = E.pages_to;
              leaf = E.leaf;
              free_to = E.free_to;
              to = C.put E.to;
              frees_to = E.frees_to;
              is = E.is;
              state = leave cap pcap base small byte C E.to E.roots E.state;
              roots = C.roots E.to E.roots;
              grown = C.trees E.to ∙ ap C.around E.grown ∙ leaf-lift;
              count = rw (C.trees E.to) (omega (arith, C.count (tree E.to) (leaf ps), E.count));
            }

  -- at a gap on the way
  module _ {t : Phys} {n slot j : ℕ} (a : AtGap cap pcap base small bytes_of p t n slot j) where
    abbrev b : ℕ
    b = byte_at bytes_of j p

    abbrev K : Children
    K = a.spot.later

    abbrev insert_below : Children → Children
    insert_below = insert_in bytes_of r.bytes τ j p

    here : tree t ≡ a.way.context.around (inner (children_of a.kids))
    here = ap tree (sym a.way.is) ∙ a.way.context.trees (inner_p n a.kids)

    children-now : children_of a.kids ≡ a.spot.before K
    children-now = ap children_of (sym (spot-same cap pcap base small a.spot a.none)) ∙ a.spot.children gap

    -- the children after the insertion, and that an empty leaf made first changes nothing
    children-then : insert_below (children_of a.kids) ≡ a.spot.before (child b (add_leaf bytes_of r.bytes τ (suc j) p []) K)
    children-then =
        ap insert_below children-now ∙ a.spot.skip insert_below (insert-skips bytes_of p r.bytes τ j) K ∙ ap a.spot.before (insert-new bytes_of p r.bytes τ j K a.spot.above)

    children-made : insert_below (a.spot.before (child b (leaf []) K)) ≡ insert_below (children_of a.kids)
    children-made =
        a.spot.skip insert_below (insert-skips bytes_of p r.bytes τ j) (child b (leaf []) K) ∙ ap a.spot.before (insert-empty bytes_of p r.bytes τ j K a.spot.above)
        ∙ sym (a.spot.skip insert_below (insert-skips bytes_of p r.bytes τ j) K) ∙ ap insert_below (sym children-now)

    inner-lift : (cs : Children) → insert bytes_of r.bytes τ 0 p (a.way.context.around (inner cs)) ≡ a.way.context.around (inner (insert_below cs))
    unfolding insert_from insert
    inner-lift cs = sym (a.way.context.lift insert_from (insert-walks bytes_of p r.bytes τ) (inner cs) tt)

    abbrev with : Tree
    with = a.way.context.around (inner (a.spot.before (child b (leaf []) K)))

    same-want : insert bytes_of r.bytes τ 0 p with ≡ insert bytes_of r.bytes τ 0 p (tree t)
    same-want =
        inner-lift (a.spot.before (child b (leaf []) K)) ∙ ap (λ (cs : Children). a.way.context.around (inner cs)) children-made ∙ sym (inner-lift (children_of a.kids))
        ∙ ap (insert bytes_of r.bytes τ 0 p) (sym here)

    with-count : nodes with ≡ 1 + nodes (tree t)
    unfolding nodes
    with-count =
        rw here
        (omega (arith, a.way.context.count (inner (a.spot.before (child b (leaf []) K))) (inner (children_of a.kids)), a.spot.count (child b (leaf []) K) K, ap nodes_in children-now))

    want-count : 1 + nodes (tree t) ≤ nodes (insert bytes_of r.bytes τ 0 p (tree t))
    unfolding nodes
    want-count =
        let A : Tree = add_leaf bytes_of r.bytes τ (suc j) p [] in
        let w : insert bytes_of r.bytes τ 0 p (tree t) ≡ a.way.context.around (inner (a.spot.before (child b A K))) =
        ap (insert bytes_of r.bytes τ 0 p) here ∙ inner-lift (children_of a.kids) ∙ ap (λ (cs : Children). a.way.context.around (inner cs)) children-then in
        rw (w, here)
        (omega (arith, a.way.context.count (inner (a.spot.before (child b A K))) (inner (children_of a.kids)), a.spot.count (child b A K) K, nodes-some A, ap nodes_in children-now))

    -- the first free node is made the leaf, and the page put in
    module _ {N P : List ℕ} {free v f : ℕ} {fs : List ℕ} {G : Cells} (st : State cap pcap base N P free t (f ∷ fs) (page (base + p) v ⊕ G)) where
      abbrev N1 : List ℕ
      N1 = link_leaf N cap a.spot.slot f b

      entered-gap : State cap pcap base N P free (inner_p n a.kids) (f ∷ fs) (a.way.context.rest ⊕ page (base + p) v ⊕ G)
      entered-gap = go-in cap pcap base small bytes_of p a.way st

      pub gap_is : fresh_leaf N cap a.spot.slot b free ≡ made N1 (Ok (grown f (get_or N f 0)))
      gap_is = fresh-is cap pcap base small entered-gap a.spot a.none

      C : Context cap pcap base small byte 0 (root t) (suc j) f
      C = inside cap pcap base small byte a.way.context a.kids a.spot f a.way.sound.0

      gap-state : State cap pcap base N1 P (get_or N f 0) (C.put (leaf_p f [])) fs (page (base + p) v ⊕ G)
      unfolding C inside
      gap-state =
          leave cap pcap base small byte a.way.context (inner_p n (a.spot.put (held (leaf_p f [])))) refl
          (fresh-state cap pcap base small entered-gap a.spot a.none)

      around-leaf : C.around (leaf []) ≡ with
      unfolding C inside
      around-leaf = refl

      pub insert-gap : nodes (insert bytes_of r.bytes τ 0 p (tree t)) ≤ nodes (tree t) + length (f ∷ fs) →
          Grown cap pcap base (root t) (nodes (tree t) + length (f ∷ fs)) (insert bytes_of r.bytes τ 0 p (tree t)) G (grow_leaf S τ r cap pcap base N1 P (suc j) f p (get_or N f 0))
      insert-gap m =
          let w : insert bytes_of r.bytes τ 0 p (C.around (leaf [])) ≡ insert bytes_of r.bytes τ 0 p (tree t) = ap (insert bytes_of r.bytes τ 0 p) around-leaf ∙ same-want in
          let q : nodes (C.around (leaf [])) + length fs ≡ nodes (tree t) + suc (length fs) = omega (arith, with-count, ap nodes around-leaf) in
          subst (λ (x : ℕ). Grown cap pcap base (root t) x (insert bytes_of r.bytes τ 0 p (tree t)) G (grow_leaf S τ r cap pcap base N1 P (suc j) f p (get_or N f 0))) q
          (subst (λ (x : Tree). Grown cap pcap base (root t) (nodes (C.around (leaf [])) + length fs) x G (grow_leaf S τ r cap pcap base N1 P (suc j) f p (get_or N f 0))) w
          (insert-at C gap-state (st.below.0, tt) (rw (q, w) m)))

  module _ {N P : List ℕ} {free v : ℕ} (t : Phys) {fs : List ℕ} {G : Cells} (st : State cap pcap base N P free t fs (page (base + p) v ⊕ G)) (y : Leads bytes_of p (tree t) Y) where
    abbrev want : Tree
    want = insert bytes_of r.bytes τ 0 p (tree t)

    abbrev Result : Type 0
    Result = Grown cap pcap base (root t) (nodes (tree t) + length fs) want G (insert_page S τ r cap pcap base N P Y (root t) p free)

    -- the leaf is there, or was made
    from-leaf : (n s k : ℕ) → descend_to N cap (root t) Y ≡ Some (Leaf (reached n s k)) → insert_page S τ r cap pcap base N P Y (root t) p free ≡ grow_leaf S τ r cap pcap base N P k n p free
    unfolding insert_page leaf_for
    from-leaf n s k e = rw e refl

    from-gap : (n s k c next : ℕ) (ns : List ℕ) → descend_to N cap (root t) Y ≡ Some (Gap (reached n s k)) → fresh_leaf N cap s (get_or Y k 0) free ≡ made ns (Ok (grown c next)) →
        insert_page S τ r cap pcap base N P Y (root t) p free ≡ grow_leaf S τ r cap pcap base ns P (suc k) c p next
    unfolding insert_page leaf_for
    from-gap n s k c next ns e q = rw (e, q, add-one k) refl

    at_leaf : (n s k : ℕ) → AtLeaf cap pcap base small bytes_of p t n s k → descend_to N cap (root t) Y ≡ Some (Leaf (reached n s k)) → nodes want ≤ nodes (tree t) + length fs → Result
    at_leaf n s k a e m =
        let C = a.way.context in
        let w : C.put (leaf_p n a.pages) ≡ t = a.way.is in
        let q : C.around (leaf a.pages) ≡ tree t = sym (C.trees (leaf_p n a.pages)) ∙ ap tree w in
        subst (λ (x : Tree). Grown cap pcap base (root t) (nodes x + length fs) (insert bytes_of r.bytes τ 0 p x) G (insert_page S τ r cap pcap base N P Y (root t) p free)) q
        (rw (from-leaf n s k e) (insert-at C (subst (λ (x : Phys). State cap pcap base N P free x fs (page (base + p) v ⊕ G)) (sym w) st) a.way.sound (rw q m)))

    at_gap : (n s k : ℕ) (a : AtGap cap pcap base small bytes_of p t n s k) → descend_to N cap (root t) Y ≡ Some (Gap (reached n s k)) → nodes want ≤ nodes (tree t) + length fs → Result
    at_gap n s k a e m = go fs st m
      where
        same_byte : byte_at bytes_of k p ≡ get_or Y k 0
        same_byte = y.bytes k (y.shallow k (children_of a.kids) a.way.path a.way.sub)

        same-leaf : fresh_leaf N cap s (get_or Y k 0) free ≡ fresh_leaf N cap a.spot.slot (byte_at bytes_of k p) free
        same-leaf = rw (a.slot, same_byte) refl

        go : (fs : List ℕ) → State cap pcap base N P free t fs (page (base + p) v ⊕ G) → nodes want ≤ nodes (tree t) + length fs →
            Grown cap pcap base (root t) (nodes (tree t) + length fs) want G (insert_page S τ r cap pcap base N P Y (root t) p free)
        go [] st m = absurd (omega (arith, want-count a))
        go (f ∷ fs) st m =
            rw (from-gap n s k f (get_or N f 0) (link_leaf N cap a.spot.slot f (byte_at bytes_of k p)) e (same-leaf ∙ gap_is a st)) (insert-gap a st m)

    by-reach : (x : Option Reach) → descend_to N cap (root t) Y ≡ x → Arrives cap pcap base small bytes_of p t x → nodes want ≤ nodes (tree t) + length fs → Result
    by-reach (Some (Leaf at)) e a m = at_leaf at.node at.slot at.level a e m
    by-reach (Some (Gap at)) e a m = at_gap at.node at.slot at.level a e m
    by-reach None e a m = absurd a

    -- the theorem
    pub insert-right : nodes want ≤ nodes (tree t) + length fs → Result
    insert-right m = by-reach (descend_to N cap (root t) Y) refl (arrives cap pcap base small bytes_of p st y) m
