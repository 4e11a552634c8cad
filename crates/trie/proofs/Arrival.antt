-- On tables that hold a trie, the way down goes as far as the page's bytes lead in it: to a leaf, or to an inner node without the child.
use Rattle.std.specs.Prelude.{Option, Some, None}
use Prim.Native.Nat.{ℕ, zero, suc, ◌-◌, ◌<◌, ◌≤◌}
use native.Mathlib.Nat.{zero-add}
use native.Mathlib.Numerals.{add-one}
use native.Mathlib.Omega.{arith}
use mathlib.Core.Path.{◌≡◌, refl, ap, ◌∙◌, sym, subst}
use mathlib.Core.Bool.{true, false}
use mathlib.Core.List.{List}
use lib.ListN.{length, get_or}
use Rattle.meaning.specs.Trie.{Tree, inner, Children, byte_at}
use Rattle.layout.specs.Nodes.{most_nodes}
use Rattle.layout.specs.States.{kind_of}
use Rattle.layout.specs.declared.nodes.Kind.TheVariants as kind
use Rattle.layout.proofs.States.{inner-kind}
use Rattle.children.specs.Heap.{Cells, Holds}
use Rattle.children.specs.Places.{find_place}
use Rattle.children.specs.Phys.{Phys, Kids, root, tree, children_of, first, cells, State, leaf_p, inner_p}
use Rattle.children.proofs.Leaves.{held-kind}
use Rattle.children.proofs.Held.{Held, gap, held, answer}
use Rattle.children.proofs.Spot.{SpotK, spot}
use Rattle.trie_laws.specs.Path.{has_below, has_path, subtree, path_of, depth}
use Rattle.trie_laws.specs.Sound.{sound_trie}
use Rattle.trie_laws.proofs.Sound.{inner-parts}
use Rattle.trie_laws.proofs.Reach.{path-length, subtree-sound}
use Rattle.trie.specs.declared.path.Step.TheVariants.{Child}
use Rattle.trie.specs.declared.path.Step.TheVariants as step
use Rattle.trie.specs.declared.path.Reach.{Reach}
use Rattle.trie.specs.declared.path.Reach.TheVariants.{Leaf, Gap}
use Rattle.trie.specs.Descend.{step_by, step_to, descend, descend_to, passed, passed_at}
use Rattle.trie.proofs.Descends.{step-leaf, step-inner, desc-leaf, desc-child, desc-gap}
use Rattle.trie.proofs.Notes.{passed_start, passed_on}
use Rattle.trie.proofs.Paths.{path-depth}
use Rattle.children.proofs.Spots.{spot-none}
use Rattle.trie.proofs.Way.{Way, start, onward, onward-put}

-- Y are page p's bytes, and the trie is not deeper than they are long
pub record Leads (bytes_of : ℕ → List ℕ) (p : ℕ) (t : Tree) (Y : List ℕ) : Type 0 where
  pub bytes : (k : ℕ) → k < length Y → byte_at bytes_of k p ≡ get_or Y k 0
  pub octets : (k : ℕ) → get_or Y k 0 < 256
  pub shallow : (k : ℕ) (cs : Children) → has_path (path_of bytes_of 0 p k) t ≡ true → subtree (path_of bytes_of 0 p k) t ≡ inner cs → k < length Y

-- a sound trie is no deeper
pub sound-leads : (bytes_of : ℕ → List ℕ) (b n p : ℕ) (t : Tree) (Y : List ℕ) → sound_trie bytes_of b n (length Y) 0 t ≡ true →
    ((k : ℕ) → k < length Y → byte_at bytes_of k p ≡ get_or Y k 0) → ((k : ℕ) → get_or Y k 0 < 256) → Leads bytes_of p t Y
sound-leads bytes_of b n p t Y g e o =
    record {
      bytes = e;
      octets = o;
      shallow = λ k cs h q.
          (inner-parts bytes_of b n (length Y) k cs (rw (path-length bytes_of 0 p k, zero-add k, q) at (subtree-sound bytes_of b n (length Y) 0 (path_of bytes_of 0 p k) t g h))).level;
    }

module _ (cap pcap base : ℕ) (small : cap ≤ most_nodes) (bytes_of : ℕ → List ℕ) (p : ℕ) where
  -- the node at level k that has u as a child, linked from slot s; slot `above` links to the node itself
  pub record Parent (Before : Phys → ℕ → Type 0) (k : ℕ) (u : Phys) (s : ℕ) : Type 0 where
    pub node : ℕ
    pub kids : Kids
    pub above : ℕ
    pub linked : Before (inner_p node kids) above
    pub spot : SpotK cap pcap base small kids node (byte_at bytes_of k p)
    pub slot : spot.slot ≡ s
    pub here : spot.there ≡ held u

  -- slot s links to u at level k, and so on up to the root, whose slot is 0
  abbrev pub Linked : Phys → ℕ → Phys → ℕ → Type 0
  Linked t zero u s = Way cap pcap base small bytes_of p t 0 u × (root u ≡ root t) × (s ≡ 0)
  Linked t (suc k) u s = Parent (Linked t k) k u s

  pub way_to : (t : Phys) (k : ℕ) (u : Phys) (s : ℕ) → Linked t k u s → Way cap pcap base small bytes_of p t k u
  way_to t zero u s l = l.0
  way_to t (suc k) u s l = onward cap pcap base small bytes_of p (way_to t k (inner_p l.node l.kids) l.above l.linked) l.spot u l.here

  -- what is put there is put below the parent
  pub put-below : (t : Phys) (k : ℕ) (u : Phys) (s : ℕ) (l : Linked t (suc k) u s) (v : Phys) →
      (way_to t (suc k) u s l).context.put v ≡ (way_to t k (inner_p l.node l.kids) l.above l.linked).context.put (inner_p l.node (l.spot.put (held v)))
  unfolding way_to
  put-below t k u s l v = onward-put cap pcap base small bytes_of p (way_to t k (inner_p l.node l.kids) l.above l.linked) l.spot u l.here v

  -- a leaf is reached
  pub record AtLeaf (t : Phys) (n s k : ℕ) : Type 0 where
    pub pages : List ℕ
    pub way : Way cap pcap base small bytes_of p t k (leaf_p n pages)
    pub linked : Linked t k (leaf_p n pages) s
    pub deep : depth bytes_of 0 p (tree t) ≡ k

  -- an inner node is reached that lacks the next byte's child, which belongs at slot s
  pub record AtGap (t : Phys) (n s k : ℕ) : Type 0 where
    pub kids : Kids
    pub way : Way cap pcap base small bytes_of p t k (inner_p n kids)
    pub spot : SpotK cap pcap base small kids n (byte_at bytes_of k p)
    pub slot : spot.slot ≡ s
    pub none : spot.there ≡ gap
    pub deep : depth bytes_of 0 p (tree t) ≡ k

  abbrev pub Arrives : Phys → Option Reach → Type 0
  Arrives t (Some (Leaf at)) = AtLeaf t at.node at.slot at.level
  Arrives t (Some (Gap at)) = AtGap t at.node at.slot at.level
  Arrives t None = ⊥

  deep-end : (t : Phys) (k : ℕ) (u : Phys) → Way cap pcap base small bytes_of p t k u → has_below (byte_at bytes_of k p) (tree u) ≡ false → depth bytes_of 0 p (tree t) ≡ k
  deep-end t k u w h = path-depth bytes_of p k 0 (tree t) w.path (rw (zero-add k, w.sub) h)

  module _ {N P Y : List ℕ} {free : ℕ} {t : Phys} {fs : List ℕ} {G : Cells} (st : State cap pcap base N P free t fs G) (y : Leads bytes_of p (tree t) Y) where
    -- the words of a subtree
    there : (k : ℕ) (u : Phys) → Way cap pcap base small bytes_of p t k u → Holds (cells cap base u) N P
    there k u w = ((w.context.same u refl).to.holds N P (subst (λ (x : Phys). Holds (cells cap base x) N P) (sym w.is) st.heap.holds.0)).0

    at_leaf : (k s n : ℕ) (ps : List ℕ) → Way cap pcap base small bytes_of p t k (leaf_p n ps) → Linked t k (leaf_p n ps) s → Arrives t (descend N cap Y n s k (length Y - k))
    unfolding has_below
    at_leaf k s n ps w l =
        let z : kind_of N cap n ≡ kind.Leaf (first ps) = held-kind N cap n ps (there k (leaf_p n ps) w).0 w.sound.1 st.page_table.small in
        subst (Arrives t) (desc-leaf N cap Y n s k (descend N cap Y n s k (length Y - k)) refl (Some step.Leaf) (step-leaf N cap Y n k (kind_of N cap n) refl (first ps) z) refl)
        (record { pages = ps; way = w; linked = l; deep = deep-end t k (leaf_p n ps) w refl })

    module _ (k s n : ℕ) (ks : Kids) (w : Way cap pcap base small bytes_of p t k (inner_p n ks)) (l : k < length Y) (o : SpotK cap pcap base small ks n (byte_at bytes_of k p)) where
      step_by_lem : (x : Held) → o.there ≡ x → step_by (answer x o.slot) ≡ step_to N cap Y n k
      step_by_lem x e =
          step-inner N cap Y n k (kind_of N cap n) refl (inner-kind N cap n (there k (inner_p n ks) w).0) l (answer x o.slot)
          (ap (λ (z : Held). answer z o.slot) (sym e) ∙ sym (o.find N P (there k (inner_p n ks) w).1) ∙ ap (find_place N cap n) (y.bytes k l))

      at_gap : o.there ≡ gap → Arrives t (descend N cap Y n s k (length Y - k))
      unfolding has_below
      at_gap e =
          subst (Arrives t) (desc-gap N cap Y n s k (descend N cap Y n s k (length Y - k)) refl (Some (step.Gap o.slot)) (step_by_lem gap e) o.slot refl)
          (record { kids = ks; way = w; spot = o; slot = refl; none = e; deep = deep-end t k (inner_p n ks) w (spot-none cap pcap base small o e) })

      at-child : (u : Phys) → o.there ≡ held u → Arrives t (descend N cap Y (root u) o.slot (suc k) (length Y - suc k)) → Arrives t (descend N cap Y n s k (length Y - k))
      at-child u e r =
          subst (Arrives t) (desc-child N cap Y n s k (descend N cap Y n s k (length Y - k)) refl (Some (Child o.slot (root u))) (step_by_lem (held u) e) l (root u) o.slot refl)
          (rw (add-one k) r)

    at-node : (k s : ℕ) (u : Phys) → Linked t k u s →
        (k < length Y → (v : Phys) (r : ℕ) → Linked t (suc k) v r → Arrives t (descend N cap Y (root v) r (suc k) (length Y - suc k))) →
        Arrives t (descend N cap Y (root u) s k (length Y - k))
    at-node k s (leaf_p n ps) l more = at_leaf k s n ps (way_to t k (leaf_p n ps) s l) l
    at-node k s (inner_p n ks) l more = go o.there refl
      where
        w : Way cap pcap base small bytes_of p t k (inner_p n ks)
        w = way_to t k (inner_p n ks) s l

        i : k < length Y
        i = y.shallow k (children_of ks) w.path w.sub

        o : SpotK cap pcap base small ks n (byte_at bytes_of k p)
        o = spot cap pcap base small n ks (byte_at bytes_of k p) (omega (arith, y.bytes k i, y.octets k)) w.sound

        go : (x : Held) → o.there ≡ x → Arrives t (descend N cap Y n s k (length Y - k))
        go gap e = at_gap k s n ks w i o e
        go (held u) e =
            at-child k s n ks w i o u e
            (more i u o.slot (record { node = n; kids = ks; above = s; linked = l; spot = o; slot = refl; here = e }))

    reach : (f k s : ℕ) (u : Phys) → length Y - k ≡ f → Linked t k u s → Arrives t (descend N cap Y (root u) s k (length Y - k))
    reach zero k s u e l = at-node k s u l (λ i. absurd (omega arith))
    reach (suc f) k s u e l = at-node k s u l (λ i v r m. reach f (suc k) r v (omega arith) m)

    -- the law of `descend_to` and `trace_to`
    pub arrives : Arrives t (descend_to N cap (root t) Y)
    unfolding descend_to
    arrives =
        let e : length Y - 0 ≡ length Y = omega arith in
        rw e at (reach (length Y) 0 0 t e (start cap pcap base small bytes_of p t st.sound, refl, refl))

    -- the nodes that it passes are those above
    pub passes : (k : ℕ) (u : Phys) (s : ℕ) → Linked t k u s → passed_at N cap (root t) Y k ≡ passed (root u) s
    passes zero u s l = passed_start N cap (root t) Y ∙ ap (λ (n : ℕ). passed n 0) (sym l.1) ∙ ap (passed (root u)) (sym l.2)
    passes (suc k) u s l =
        let n : ℕ = l.node in
        let w : Way cap pcap base small bytes_of p t k (inner_p n l.kids) = way_to t k (inner_p n l.kids) l.above l.linked in
        let i : k < length Y = y.shallow k (children_of l.kids) w.path w.sub in
        rw add-one at
        (passed_on N cap (root t) Y k n l.above (passes k (inner_p n l.kids) l.above l.linked) (Some (Child l.spot.slot (root u)))
        (step_by_lem k l.above n l.kids w i l.spot (held u) l.here) (root u) s (ap (λ (x : ℕ). Some (Child x (root u))) l.slot))
