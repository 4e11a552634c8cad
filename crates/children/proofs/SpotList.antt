-- The place of a byte in a list of children: the slot that links to the child there, and what may be put there instead.
use Prim.Native.Nat.{ℕ, suc, ◌+◌, ◌*◌, ◌-◌, ◌/◌, ◌<◌, ◌≤◌}
use mathlib.Core.Path.{◌≡◌, refl, ap, ◌∙◌, sym, subst}
use mathlib.Core.List.{List}
use native.Mathlib.Omega.{arith}
use borrow.Author.Tests.{eqb-true, eqb-false}
use lib.Dec.{eqb}
use lib.ListN.{get_or}
use Rattle.meaning.specs.Trie.{Tree, Children, child, nodes, nodes_in}
use Rattle.layout.specs.Nodes.{byte_of, chain_word, node_words, most_nodes}
use Rattle.children.specs.Heap.{Cells, Holds, node, ◌⊕◌}
use Rattle.children.specs.Places.{link_at, place_from}
use Rattle.children.specs.Phys.{Phys, Kids, no_kid, kid, root, tree, children_of, first_in, cells, linked_cells, SoundK}
use Rattle.trie_laws.proofs.Lists.{holds, fails, truth, less, same, more, compared}
use Rattle.children.proofs.Frame.{Same}
use Rattle.children.proofs.Held.{Held, gap, held, entry, onto, answer, link_to, held_cells, SoundH}
use Rattle.children.proofs.Abstract.{Skips, Above, Leaves, leaves-next}
use Rattle.children.proofs.Kids.{first-here, first-other, root_below, lower, link-below, none_below}
use Rattle.children.proofs.Steps.{place_none, place-go, place_found, place-past}

-- a child before others adds the same number of nodes to each
child-count : (c : ℕ) (t : Tree) (xs ys cs ds : Children) → nodes_in xs + nodes_in ds ≡ nodes_in ys + nodes_in cs →
    nodes_in (child c t xs) + nodes_in ds ≡ nodes_in (child c t ys) + nodes_in cs
unfolding nodes
child-count c t xs ys cs ds e = omega arith

-- what stands before byte b in the abstract trie, and later; `put` puts a child at its place, or none
pub record Around (b : ℕ) (put : Held → Kids) : Type 0 where
  pub before : Children → Children
  pub later : Children
  pub children : (x : Held) → children_of (put x) ≡ before (onto b x later)
  pub above : Above b later
  pub count : (cs ds : Children) → nodes_in (before cs) + nodes_in ds ≡ nodes_in (before ds) + nodes_in cs
  pub leaves : (cs : Children) → Leaves (before cs) → Leaves cs
  pub skip : (F : Children → Children) → Skips b F → (cs : Children) → F (before cs) ≡ before (F cs)

around_here : (b : ℕ) (after : Kids) → Above b (children_of after) → Around b (λ x. entry b x after)
around_here b after l =
    record {
      before = λ cs. cs;
      later = children_of after;
      children = children-here;
      above = l;
      count = λ cs ds. omega arith;
      leaves = λ cs h. h;
      skip = λ F h cs. refl;
    }
  where
    children-here : (x : Held) → children_of (entry b x after) ≡ onto b x (children_of after)
    children-here gap = refl
    children-here (held u) = refl

around-past : {b : ℕ} {put : Held → Kids} (c : ℕ) (t : Phys) → c < b → Around b put → Around b (λ x. kid c t (put x))
around-past c t l r =
    record {
      before = λ cs. child c (tree t) (r.before cs);
      later = r.later;
      children = λ x. ap (child c (tree t)) (r.children x);
      above = r.above;
      count = λ cs ds. child-count c (tree t) (r.before cs) (r.before ds) cs ds (r.count cs ds);
      leaves = λ cs z. r.leaves cs (leaves-next c (tree t) (r.before cs) z);
      skip = λ F z cs. z c (tree t) (r.before cs) l ∙ ap (child c (tree t)) (r.skip F z cs);
    }

module _ (cap pcap base : ℕ) (small : cap ≤ most_nodes) where
  kids-above : (ks : Kids) (b : ℕ) → SoundK cap pcap ks (suc b) → Above b (children_of ks)
  kids-above no_kid b h = tt
  kids-above (kid c t ks) b h = h.0

  -- the word of a slot that links to the first of some children in chain g
  slot-link : (N : List ℕ) (ks : Kids) (s y lo g : ℕ) → SoundK cap pcap ks lo → get_or N s 0 ≡ chain_word y (first_in ks g) → link_at N s ≡ first_in ks g
  slot-link N ks s y lo g h e = omega (arith, link-below cap pcap ks lo g h)

  slot-byte : (N : List ℕ) (ks : Kids) (s y lo g : ℕ) → SoundK cap pcap ks lo → get_or N s 0 ≡ chain_word y (first_in ks g) → byte_of (get_or N s 0) ≡ y
  slot-byte N ks s y lo g h e = omega (arith, link-below cap pcap ks lo g h)

  -- a walk from slot s over fewer than f links finds x at slot r; no byte of the chain is below m
  abbrev Finds : Kids → ℕ → ℕ → ℕ → ℕ → Held → ℕ → Type 0
  Finds ks b s y lo x r =
      (N P : List ℕ) (f m : ℕ) → ((c : ℕ) → lo ≤ c → c / 32 ≡ b / 32 → m ≤ c) → m ≤ b → b < m + f → get_or N s 0 ≡ chain_word y (first_in ks (b / 32)) →
      Holds (linked_cells cap base ks) N P → place_from N cap b s f ≡ answer x r

  -- among children with bytes from lo on: slot s has the byte y, and links to the first of them in the chain of b
  pub record SpotL (ks : Kids) (b s y lo : ℕ) : Type 0 where
    pub there : Held
    pub put : Held → Kids
    pub slot : ℕ
    pub byte : ℕ
    pub next : ℕ
    pub rest : Cells
    pub within : s < node_words cap → slot < node_words cap
    pub short : next ≤ cap
    pub whole : put there ≡ ks
    pub same : (x : Held) → Same (node s (chain_word y (first_in (put x) (b / 32))) ⊕ linked_cells cap base (put x)) (node slot (chain_word byte (link_to x next)) ⊕ held_cells cap base b next x ⊕ rest)
    pub others : (x : Held) (h : ℕ) → (b / 32 ≡ h → ⊥) → first_in (put x) h ≡ first_in (put gap) h
    pub sound_there : SoundH cap pcap there
    pub sound : (x : Held) → SoundH cap pcap x → SoundK cap pcap (put x) lo
    pub around : Around b put
    pub find : Finds ks b s y lo there slot

  -- before the first child
  here : (x : Held) (after : Kids) (b s y lo : ℕ) → lo ≤ b → b < 256 → SoundH cap pcap x → SoundK cap pcap after (suc b) → Finds (entry b x after) b s y lo x s → SpotL (entry b x after) b s y lo
  here x after b s y lo l m z g f =
      record {
        there = x;
        put = λ v. entry b v after;
        slot = s;
        byte = y;
        next = first_in after (b / 32);
        rest = linked_cells cap base after;
        within = λ i. i;
        short = link-below cap pcap after (suc b) (b / 32) g;
        whole = refl;
        same = same_here;
        others = others-here;
        sound_there = z;
        sound = sound-here;
        around = around_here b after (kids-above after b g);
        find = f;
      }
    where
      same_here : (v : Held) → Same (node s (chain_word y (first_in (entry b v after) (b / 32))) ⊕ linked_cells cap base (entry b v after))
          (node s (chain_word y (link_to v (first_in after (b / 32)))) ⊕ held_cells cap base b (first_in after (b / 32)) v ⊕ linked_cells cap base after)
      same_here gap =
          record {
            to = record { holds = λ N P h. (h.0, (tt, h.1)); nodes = λ a. omega arith; pages = λ a. omega arith };
            back = record { holds = λ N P h. (h.0, h.1.1); nodes = λ a. omega arith; pages = λ a. omega arith };
          }
      same_here (held u) =
          rw (first-here b u after (b / 32) refl)
          (record {
            to = record { holds = λ N P h. (h.0, ((h.1.0, h.1.1.0), h.1.1.1)); nodes = λ a. omega arith; pages = λ a. omega arith };
            back = record { holds = λ N P h. (h.0, (h.1.0.0, (h.1.0.1, h.1.1))); nodes = λ a. omega arith; pages = λ a. omega arith };
          })

      others-here : (v : Held) (h : ℕ) → (b / 32 ≡ h → ⊥) → first_in (entry b v after) h ≡ first_in after h
      others-here gap h e = refl
      others-here (held u) h e = first-other b u after h e

      sound-here : (v : Held) → SoundH cap pcap v → SoundK cap pcap (entry b v after) lo
      sound-here gap h = lower cap pcap after lo (suc b) (omega arith) g
      sound-here (held u) h = (l, m, h, g)

  -- past a child with a lower byte
  module _ (c : ℕ) (t : Phys) (ks : Kids) (b s y lo : ℕ) (k : c < b) (g : SoundK cap pcap (kid c t ks) lo) where
    word_of : (N P : List ℕ) → Holds (linked_cells cap base (kid c t ks)) N P → byte_of (get_or N (root t) 0) ≡ c
    word_of N P h = slot-byte N ks (root t) c (suc c) (c / 32) g.3 h.0

    -- in the chain of b
    past-here : c / 32 ≡ b / 32 → SpotL ks b (root t) c (suc c) → SpotL (kid c t ks) b s y lo
    past-here e r =
        record {
          there = r.there;
          put = λ x. kid c t (r.put x);
          slot = r.slot;
          byte = r.byte;
          next = r.next;
          rest = node s (chain_word y (root t + 1)) ⊕ cells cap base t ⊕ r.rest;
          within = λ i. r.within (omega (arith, root_below cap pcap t g.2));
          short = r.short;
          whole = ap (kid c t) r.whole;
          same = λ x.
              rw (first-here c t (r.put x) (b / 32) e, e)
              (record {
                to = record {
                  holds = λ N P h. let i = (r.same x).to.holds N P (h.1.0, h.1.1.1) in (i.0, (i.1.0, (h.0, (h.1.1.0, i.1.1))));
                  nodes = λ a. omega (arith, (r.same x).to.nodes a);
                  pages = λ a. omega (arith, (r.same x).to.pages a);
                };
                back = record {
                  holds = λ N P h.
                      let i = (r.same x).back.holds N P (h.0, (h.1.0, h.1.1.1.1)) in (h.1.1.0, (i.0, (h.1.1.1.0, i.1)));
                  nodes = λ a. omega (arith, (r.same x).back.nodes a);
                  pages = λ a. omega (arith, (r.same x).back.pages a);
                };
              });
          others = λ x h d. first-other c t (r.put x) h (λ z. d (sym e ∙ z)) ∙ r.others x h d ∙ sym (first-other c t (r.put gap) h (λ z. d (sym e ∙ z)));
          sound_there = r.sound_there;
          sound = λ x z. (g.0, g.1, g.2, r.sound x z);
          around = around-past c t k r.around;
          find = λ N P f m low o j w h.
              let v : link_at N s ≡ root t + 1 = slot-link N (kid c t ks) s y lo (b / 32) g w ∙ first-here c t ks (b / 32) e in
              let d : link_at N s - 1 ≡ root t = omega arith in
              let q : byte_of (get_or N (root t) 0) ≡ c = word_of N P h in
              let u = root_below cap pcap t g.2 in
              let n = low c g.0 e in
              let z = place-go N cap b s f _ refl (omega arith) (omega arith) (omega arith) (rw (d, q) k) in
              sym z ∙ rw d (r.find N P (f - 1) (suc c) (λ c' l' e'. l') k (omega arith) (rw e at h.0) h.1.1);
        }

    -- in another chain
    past-other : (c / 32 ≡ b / 32 → ⊥) → SpotL ks b s y (suc c) → SpotL (kid c t ks) b s y lo
    past-other e r =
        let i : (x : Held) → first_in (kid c t (r.put x)) (b / 32) ≡ first_in (r.put x) (b / 32) = λ x. first-other c t (r.put x) (b / 32) e in
        record {
          there = r.there;
          put = λ x. kid c t (r.put x);
          slot = r.slot;
          byte = r.byte;
          next = r.next;
          rest = node (root t) (chain_word c (first_in (r.put gap) (c / 32))) ⊕ cells cap base t ⊕ r.rest;
          within = r.within;
          short = r.short;
          whole = ap (kid c t) r.whole;
          same = λ x.
              rw (i x, r.others x (c / 32) (λ z. e (sym z)))
              (record {
                to = record {
                  holds = λ N P h. let o = (r.same x).to.holds N P (h.0, h.1.1.1) in (o.0, (o.1.0, (h.1.0, (h.1.1.0, o.1.1))));
                  nodes = λ a. omega (arith, (r.same x).to.nodes a);
                  pages = λ a. omega (arith, (r.same x).to.pages a);
                };
                back = record {
                  holds = λ N P h.
                      let o = (r.same x).back.holds N P (h.0, (h.1.0, h.1.1.1.1)) in (o.0, (h.1.1.0, (h.1.1.1.0, o.1)));
                  nodes = λ a. omega (arith, (r.same x).back.nodes a);
                  pages = λ a. omega (arith, (r.same x).back.pages a);
                };
              });
          others = λ x h d. others-past (r.put x) (r.put gap) h (r.others x h d);
          sound_there = r.sound_there;
          sound = λ x z. (g.0, g.1, g.2, r.sound x z);
          around = around-past c t k r.around;
          find = λ N P f m low o j w h.
              r.find N P f m (λ c' l' e'. low c' (omega (arith, g.0)) e') o j (w ∙ ap (chain_word y) (first-other c t ks (b / 32) e)) h.1.1;
        }
      where
        others-past : (xs ys : Kids) (h : ℕ) → first_in xs h ≡ first_in ys h → first_in (kid c t xs) h ≡ first_in (kid c t ys) h
        others-past xs ys h e = rw e refl

  -- no child in the chain from here on
  ends : (ks : Kids) (b s y lo : ℕ) → SoundK cap pcap ks lo → first_in ks (b / 32) ≡ 0 → Finds ks b s y lo gap s
  ends ks b s y lo g e N P f m low o j w h = sym (place_none N cap b s f _ refl (omega arith) (slot-link N ks s y lo (b / 32) g w ∙ e))

  -- the child at the byte's place, or one behind it in its chain
  module _ (c : ℕ) (t : Phys) (ks : Kids) (b s y lo : ℕ) (g : SoundK cap pcap (kid c t ks) lo) (e : c / 32 ≡ b / 32) (l : b ≤ c) where
    at-child : (N P : List ℕ) → get_or N s 0 ≡ chain_word y (first_in (kid c t ks) (b / 32)) →
        Holds (linked_cells cap base (kid c t ks)) N P → (link_at N s ≡ root t + 1) × (byte_of (get_or N (root t) 0) ≡ c)
    at-child N P w h = (slot-link N (kid c t ks) s y lo (b / 32) g w ∙ first-here c t ks (b / 32) e, slot-byte N ks (root t) c (suc c) (c / 32) g.3 h.0)

    found_here : c ≡ b → Finds (kid c t ks) b s y lo (held t) s
    found_here q N P f m low o j w h =
        let a = at-child N P w h in
        let v : link_at N s ≡ root t + 1 = a.0 in
        let d : link_at N s - 1 ≡ root t = omega arith in
        let u = root_below cap pcap t g.2 in
        sym (place_found N cap b s f _ refl (omega arith) (omega arith) (omega arith) (rw (d, a.1) l) (rw (d, a.1) q)) ∙ rw d refl

    behind-here : (c ≡ b → ⊥) → Finds (kid c t ks) b s y lo gap s
    behind-here q N P f m low o j w h =
        let a = at-child N P w h in
        let v : link_at N s ≡ root t + 1 = a.0 in
        let d : link_at N s - 1 ≡ root t = omega arith in
        let u = root_below cap pcap t g.2 in
        sym (place-past N cap b s f _ refl (omega arith) (omega arith) (omega arith) (rw (d, a.1) l) (rw (d, a.1) q))

  stops : (c : ℕ) (t : Phys) (ks : Kids) (b s y lo : ℕ) → SoundK cap pcap (kid c t ks) lo → b < c → Finds (kid c t ks) b s y lo gap s
  stops c t ks b s y lo g l = elim (truth (eqb (c / 32) (b / 32))) [
    | holds e ↦ behind-here c t ks b s y lo g (eqb-true (c / 32) (b / 32) e) (omega arith) (omega arith)
    | fails e ↦
        ends (kid c t ks) b s y lo g
        (first-other c t ks (b / 32) (eqb-false (c / 32) (b / 32) e) ∙ none_below cap pcap ks (suc c) (b / 32) g.3 (far (eqb-false (c / 32) (b / 32) e)))
  ]
    where
      far : (c / 32 ≡ b / 32 → ⊥) → 32 * (b / 32) + 32 ≤ suc c
      far d = omega (arith, d)

  pub spot_l : (ks : Kids) (b s y lo : ℕ) → lo ≤ b → b < 256 → SoundK cap pcap ks lo → SpotL ks b s y lo
  spot_l no_kid b s y lo l m g = here gap no_kid b s y lo l m tt tt (ends no_kid b s y lo tt refl)
  spot_l (kid c t ks) b s y lo l m g = elim (compared c b) [
    | less k tests ↦ elim (truth (eqb (c / 32) (b / 32))) [
      | holds e ↦ past-here c t ks b s y lo k g (eqb-true (c / 32) (b / 32) e) (spot_l ks b (root t) c (suc c) k m g.3)
      | fails e ↦ past-other c t ks b s y lo k g (eqb-false (c / 32) (b / 32) e) (spot_l ks b s y (suc c) k m g.3)
    ]
    | same e tests ↦
        subst (λ n. SpotL (kid n t ks) b s y lo) (sym e)
        (here (held t) ks b s y lo l m g.2 (rw e at g.3) (rw e at (found_here c t ks b s y lo g (ap (λ n. n / 32) e) (omega arith) e)))
    | more k tests ↦ here gap (kid c t ks) b s y lo l m tt (k, g.1, g.2, g.3) (stops c t ks b s y lo g k)
  ]
