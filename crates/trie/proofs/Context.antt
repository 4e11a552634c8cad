-- A trie with a hole where the bytes of a page lead: what is done to the subtree there is done to the whole.
use Prim.Native.Nat.{ℕ, suc, ◌+◌, ◌<◌, ◌≤◌}
use mathlib.Core.Path.{◌≡◌, refl, ap, ◌∙◌, sym}
use mathlib.Core.List.{List}
use native.Mathlib.Omega.{arith}
use Rattle.meaning.specs.Trie.{Tree, inner, Children, child, nodes}
use Rattle.layout.specs.Nodes.{state_at, inner_state, most_nodes}
use Rattle.children.specs.Heap.{Cells, nil, node, ◌⊕◌}
use Rattle.children.specs.Phys.{Phys, Kids, root, tree, free_cells, cells, Sound, State, inner_p}
use Rattle.children.proofs.Frame.{Less, less, less-right, Same}
use Rattle.trie.proofs.Abstract.{Kept, Walks}
use Rattle.children.proofs.Held.{held}
use Rattle.children.proofs.Spot.{SpotK}
use Rattle.children.proofs.Joins.{siblings, child-same}

module _ (cap pcap base : ℕ) (small : cap ≤ most_nodes) (byte : ℕ → ℕ) where
  -- from level k, where the root is node top, to level j, where the hole is for a subtree with the root hole
  pub record Context (k top j hole : ℕ) : Type 0 where
    pub put : Phys → Phys
    pub rest : Cells
    pub roots : (u : Phys) → root u ≡ hole → root (put u) ≡ top
    pub same : (u : Phys) → root u ≡ hole → Same (cells cap base (put u)) (cells cap base u ⊕ rest)
    pub sound : (u : Phys) → Sound cap pcap u → Sound cap pcap (put u)
    pub around : Tree → Tree
    pub trees : (u : Phys) → tree (put u) ≡ around (tree u)
    pub count : (x y : Tree) → nodes (around x) + nodes y ≡ nodes (around y) + nodes x
    pub lift : (F : ℕ → Tree → Tree) → Walks byte F → (x : Tree) → Kept (F j x) → around (F j x) ≡ F k (around x)

  unfoldable pub whole : (k n : ℕ) → Context k n k n
  whole k n =
      record {
        put = λ u. u;
        rest = nil;
        roots = λ u e. e;
        same = λ u e. record {
          to = record { holds = λ N P h. (h, tt); nodes = λ a. omega arith; pages = λ a. omega arith };
          back = record { holds = λ N P h. h.0; nodes = λ a. omega arith; pages = λ a. omega arith };
        };
        sound = λ u g. g;
        around = λ x. x;
        trees = λ u. refl;
        count = λ x y. omega arith;
        lift = λ F w x z. refl;
      }

  -- down to node m, the child of the next byte
  module _ {k top j n : ℕ} (C : Context k top j n) (ks : Kids) (s : SpotK cap pcap base small ks n (byte j)) (m : ℕ) where
    abbrev pub below : Phys → Phys
    below u = inner_p n (s.put (held u))

    abbrev pub rest : Cells
    rest = siblings cap pcap base small s m ⊕ node (state_at cap n) inner_state ⊕ C.rest

    pub below-same : (u : Phys) → root u ≡ m → Same (cells cap base (C.put (below u))) (cells cap base u ⊕ rest)
    below-same u e =
        let p = C.same (inner_p n (s.put (held u))) refl in
        let q = child-same cap pcap base small s u in
        record {
          to = record {
            holds = λ N P h. let i = p.to.holds N P h in let o = q.to.holds N P i.0.1 in (o.0, (rw e at o.1, (i.0.0, i.1)));
            nodes = λ a. rw (← e) (omega (arith, p.to.nodes a, q.to.nodes a));
            pages = λ a. omega (arith, p.to.pages a, q.to.pages a);
          };
          back = record {
            holds = λ N P h. p.back.holds N P ((h.1.1.0, q.back.holds N P (h.0, rw (← e) at h.1.0)), h.1.1.1);
            nodes = λ a. rw (← e) (omega (arith, p.back.nodes a, q.back.nodes a));
            pages = λ a. omega (arith, p.back.pages a, q.back.pages a);
          };
        }

    abbrev pub below_t : Tree → Tree
    below_t x = inner (s.before (child (byte j) x s.later))

    pub below-count : (x y : Tree) → nodes (C.around (below_t x)) + nodes y ≡ nodes (C.around (below_t y)) + nodes x
    unfolding nodes
    below-count x y =
        omega (arith, C.count (below_t x) (below_t y), s.count (child (byte j) x s.later) (child (byte j) y s.later))

    pub below-lift : (F : ℕ → Tree → Tree) (w : Walks byte F) (x : Tree) → Kept (F (suc j) x) → below_t (F (suc j) x) ≡ F j (below_t x)
    below-lift F w x z =
        ap inner (ap s.before (sym (w.here j x s.later z)) ∙ sym (s.skip (w.below j) (w.skips j) (child (byte j) x s.later))) ∙ sym (w.inside j (s.before (child (byte j) x s.later)))

    pub kept-below : (F : ℕ → Tree → Tree) (w : Walks byte F) (x : Tree) → Kept (F j (below_t x))
    kept-below F w x = rw (w.inside j (s.before (child (byte j) x s.later))) tt

    unfoldable pub inside : n < cap → Context k top (suc j) m
    inside l =
        record {
          put = λ u. C.put (below u);
          rest = rest;
          roots = λ u e. C.roots (below u) refl;
          same = below-same;
          sound = λ u h. C.sound (below u) (l, s.sound (held u) h);
          around = λ x. C.around (below_t x);
          trees = λ u. C.trees (below u) ∙ ap (λ (cs : Children). C.around (inner cs)) (s.children (held u));
          count = below-count;
          lift = λ F w x z. ap C.around (below-lift F w x z) ∙ C.lift F w (below_t x) (kept-below F w x);
        }

  -- a state of the whole and a state of the subtree, the rest beside it
  module _ {k top j n : ℕ} (C : Context k top j n) {N P : List ℕ} {free : ℕ} {fs : List ℕ} {G : Cells} (u : Phys) (r : root u ≡ n) where
    pub enter : State cap pcap base N P free (C.put u) fs G → Sound cap pcap u → State cap pcap base N P free u fs (C.rest ⊕ G)
    enter st g =
        record {
          heap = less (record {
            holds = λ N P h. let i = (C.same u r).to.holds N P h.0 in (i.0, (h.1.0, (i.1, h.1.1)));
            nodes = λ a. omega (arith, (C.same u r).to.nodes a);
            pages = λ a. omega (arith, (C.same u r).to.pages a);
          }) st.heap;
          sound = g;
          node_table = st.node_table;
          page_table = st.page_table;
          chain = st.chain;
          below = st.below;
        }

    pub leave : State cap pcap base N P free u fs (C.rest ⊕ G) → State cap pcap base N P free (C.put u) fs G
    leave st =
        record {
          heap = less (record {
            holds = λ N P h. ((C.same u r).back.holds N P (h.0, h.1.1.0), (h.1.0, h.1.1.1));
            nodes = λ a. omega (arith, (C.same u r).back.nodes a);
            pages = λ a. omega (arith, (C.same u r).back.pages a);
          }) st.heap;
          sound = C.sound u st.sound;
          node_table = st.node_table;
          page_table = st.page_table;
          chain = st.chain;
          below = st.below;
        }

-- other cells beside it
pub beside : {cap pcap base : ℕ} {N P : List ℕ} {free : ℕ} {t : Phys} {fs : List ℕ} {G G' : Cells} → Less G G' → State cap pcap base N P free t fs G → State cap pcap base N P free t fs G'
beside {cap} {base} {t} {fs} l st =
    record {
      node_table = st.node_table;
      page_table = st.page_table;
      heap = less (less-right (cells cap base t) (less-right (free_cells cap fs) l)) st.heap;
      sound = st.sound;
      chain = st.chain;
      below = st.below;
    }
