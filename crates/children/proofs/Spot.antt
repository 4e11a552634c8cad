-- The place of a byte among the children of an inner node: the child there or none, the slot that links to it, and what may be put there instead.
use Prim.Native.Nat.{ℕ, suc, ◌+◌, ◌*◌, ◌-◌, ◌/◌, ◌<◌, ◌≤◌}
use mathlib.Core.Path.{◌≡◌, ap₂, ◌∙◌, sym, subst}
use mathlib.Core.List.{List}
use native.Mathlib.Omega.{arith}
use Rattle.meaning.specs.Trie.{Children, nodes_in}
use Rattle.layout.specs.Nodes.{chain_word, head_at, node_words, most_nodes}
use Rattle.children.specs.Heap.{Cells, Holds, node, ◌⊕◌}
use Rattle.children.specs.Places.{find_place}
use Rattle.children.specs.Phys.{Kids, inner_p, children_of, first_in, heads_from, kid_cells, Sound, SoundK}
use Rattle.children.proofs.Frame.{Same}
use Rattle.children.proofs.Held.{Held, gap, onto, answer, link_to, held_cells, SoundH}
use Rattle.children.proofs.SpotList.{SpotL, spot_l}
use Rattle.children.proofs.Abstract.{Skips, Above, Leaves}
use Rattle.children.proofs.Kids.{heads-like, heads-split, head-held}

module _ (cap pcap base : ℕ) (small : cap ≤ most_nodes) where
  -- in a whole node
  pub record SpotK (ks : Kids) (n b : ℕ) : Type 0 where
    pub there : Held
    pub put : Held → Kids
    pub slot : ℕ
    pub byte : ℕ
    pub next : ℕ
    pub rest : Cells
    pub before : Children → Children
    pub later : Children
    pub within : n < cap → slot < node_words cap
    pub short : next ≤ cap
    pub whole : put there ≡ ks
    pub same : (x : Held) → Same (kid_cells cap base (put x) n) (node slot (chain_word byte (link_to x next)) ⊕ held_cells cap base b next x ⊕ rest)
    pub sound_there : SoundH cap pcap there
    pub sound : (x : Held) → SoundH cap pcap x → SoundK cap pcap (put x) 0
    pub children : (x : Held) → children_of (put x) ≡ before (onto b x later)
    pub above : Above b later
    pub count : (cs ds : Children) → nodes_in (before cs) + nodes_in ds ≡ nodes_in (before ds) + nodes_in cs
    pub leaves : (cs : Children) → Leaves (before cs) → Leaves cs
    pub skip : (F : Children → Children) → Skips b F → (cs : Children) → F (before cs) ≡ before (F cs)
    pub find : (N P : List ℕ) → Holds (kid_cells cap base ks n) N P → find_place N cap n b ≡ answer there slot

  module _ (n : ℕ) (ks : Kids) (b : ℕ) (l : b < 256) (r : SpotL cap pcap base small ks b (head_at cap n (b / 32)) 0 0) where
    -- the heads of the other chains
    heads-of : Kids → Cells
    heads-of js = heads_from cap n 0 (b / 32) (first_in js) ⊕ heads_from cap n (suc (b / 32)) (7 - b / 32) (first_in js)

    heads-kept : (x : Held) → heads-of (r.put x) ≡ heads-of (r.put gap)
    unfolding heads-of
    heads-kept x =
        ap₂ (λ p q. p ⊕ q)
        (heads-like cap n (first_in (r.put x)) (first_in (r.put gap)) (b / 32) 0 (λ h i j. r.others x h (omega arith)))
        (heads-like cap n (first_in (r.put x)) (first_in (r.put gap)) (7 - b / 32) (suc (b / 32)) (λ h i j. r.others x h (omega arith)))

    abbrev AtSlot : Held → Cells → Type 0
    AtSlot x hs =
        Same (kid_cells cap base (r.put x) n) (node r.slot (chain_word r.byte (link_to x r.next)) ⊕ held_cells cap base b r.next x ⊕ (r.rest ⊕ hs))

    own-heads : (x : Held) → AtSlot x (heads-of (r.put x))
    unfolding heads-of
    own-heads x =
        let q = heads-split cap n (first_in (r.put x)) (b / 32) (7 - b / 32) 0 8 (b / 32) (omega arith) (omega arith) in
        let o = r.same x in
        let e : chain_word 0 (first_in (r.put x) (b / 32)) ≡ first_in (r.put x) (b / 32) = omega arith in
        record {
          to = record {
            holds = λ N P h.
                let i = q.to.holds N P h.0 in
                let j = o.to.holds N P (i.0 ∙ sym e, h.1) in
                (j.0, (j.1.0, (j.1.1, i.1)));
            nodes = λ a. omega (arith, q.to.nodes a, o.to.nodes a);
            pages = λ a. omega (arith, q.to.pages a, o.to.pages a);
          };
          back = record {
            holds = λ N P h.
                let j = o.back.holds N P (h.0, (h.1.0, h.1.1.0)) in
                (q.back.holds N P (j.0 ∙ e, h.1.1.1), j.1);
            nodes = λ a. omega (arith, q.back.nodes a, o.back.nodes a);
            pages = λ a. omega (arith, q.back.pages a, o.back.pages a);
          };
        }

    spot-node : SpotK ks n b
    unfolding find_place
    spot-node =
        record {
          there = r.there;
          put = r.put;
          slot = r.slot;
          byte = r.byte;
          next = r.next;
          rest = r.rest ⊕ heads-of (r.put gap);
          before = r.around.before;
          later = r.around.later;
          within = λ i. r.within (omega arith);
          short = r.short;
          whole = r.whole;
          same = λ x. subst (AtSlot x) (heads-kept x) (own-heads x);
          sound_there = r.sound_there;
          sound = r.sound;
          children = r.around.children;
          above = r.around.above;
          count = r.around.count;
          leaves = r.around.leaves;
          skip = r.around.skip;
          find = λ N P h. r.find N P 33 (32 * (b / 32)) (λ c i e. omega arith) (omega arith) (omega arith)
              (head-held cap n N P (first_in ks) 8 0 (b / 32) (omega arith) (omega arith) h.0 ∙ omega arith) h.1;
        }

  pub spot : (n : ℕ) (ks : Kids) (b : ℕ) → b < 256 → Sound cap pcap (inner_p n ks) → SpotK ks n b
  spot n ks b l h = spot-node n ks b l (spot_l cap pcap base small ks b (head_at cap n (b / 32)) 0 0 (omega arith) l h.1)
