-- Going through the children of a node as `order` does, by what lies in the tables; and back: what lies there, by the steps that were taken.
use Rattle.std.specs.Prelude.{Some}
use Prim.Native.Nat.{ℕ, zero, suc, ◌+◌, ◌-◌, ◌*◌, ◌/◌, ◌<◌, ◌≤◌}
use native.Mathlib.Decide.{ℕ_discrete}
use native.Mathlib.Numerals.{add-one}
use native.Mathlib.Omega.{arith}
use mathlib.Core.Path.{◌≡◌, refl, sym, ap, ◌∙◌}
use mathlib.Core.List.{List}
use borrow.Author.Tests.{eqb-true, eqb-false}
use lib.Dec.{eqb}
use lib.ListN.{get_or}
use Rattle.layout.specs.Nodes.{chain_word, head_at, most_nodes}
use Rattle.children.specs.declared.order.Frame.{Frame}
use Rattle.children.specs.declared.order.Step.TheVariants.{Chain, Child, Up}
use Rattle.children.specs.Heap.{Holds}
use Rattle.children.specs.Order.{entered, past_child, next_chain, next_child}
use Rattle.children.specs.Phys.{Phys, Kids, no_kid, kid, root, first_in, cells, kid_cells, Sound, SoundK}
use Rattle.trie_laws.proofs.Lists.{holds, fails, truth}
use Rattle.children.proofs.Kids.{first-here, first-other, lower, none_below, head-held, held-heads}
use Rattle.children.proofs.Ahead.{Ahead, ahead-all, ahead-chain, ahead_more, ahead-kid}
use Rattle.children.proofs.StepWords.{AtChild, AtChain, AtEnd, to-child, to-chain, to-up}

-- the group of a frame is one of the eight, and the least byte belongs to it, or is one above
abbrev pub Placed : Frame → Type 0
Placed f = (f.group < 8) × (32 * f.group ≤ f.least) × (f.least ≤ 32 * f.group + 32)

-- the steps to other groups that a frame may still make
abbrev pub groups_left : Frame → ℕ
groups_left f = 7 - f.group

module _ (cap pcap base : ℕ) (N P : List ℕ) where
  -- the children that are still to come for a frame
  abbrev pub AheadF : Frame → Kids → Type 0
  AheadF f ks = Ahead cap pcap base N P f.node f.group f.link f.least ks

  -- ---- the way on
  pub enter-ahead : (x : ℕ) (ks : Kids) → Holds (kid_cells cap base ks x) N P → SoundK cap pcap ks 0 → AheadF (entered N cap x) ks
  unfolding entered
  enter-ahead x ks h s = rw (head-held cap x N P (first_in ks) 8 0 0 (omega arith) (omega arith) h.0) (ahead-all cap pcap base N P x ks h s)

  -- where a child is to come: to the next chain, or to the child
  pub data StepKid (f : Frame) (b : ℕ) (t : Phys) (ks : Kids) : Type 0 where
    to_chain : (l : ℕ) → f.group < 7 → next_child N cap f ≡ Some (Chain l) → AheadF (next_chain f l) (kid b t ks) → StepKid f b t ks
    to_kid : (l : ℕ) → next_child N cap f ≡ Some (Child (root t) b l) → Holds (cells cap base t) N P → Sound cap pcap t → AheadF (past_child f b l) ks → StepKid f b t ks

  -- where none is: to the next chain, or up
  pub data StepEnd (f : Frame) : Type 0 where
    end_chain : (l : ℕ) → f.group < 7 → next_child N cap f ≡ Some (Chain l) → AheadF (next_chain f l) no_kid → StepEnd f
    to_up : next_child N cap f ≡ Some Up → StepEnd f

  module _ (f : Frame) where
    next-chain : (ks : Kids) → AheadF f ks → f.link ≡ 0 → f.group < 7 → next_child N cap f ≡ Some (Chain (first_in ks (f.group + 1)))
    next-chain ks a e l = to-chain N cap f e l ∙ ap (λ n. Some (Chain n)) (a.later (f.group + 1) (omega arith) (omega arith))

    pub step-kid : (b : ℕ) (t : Phys) (ks : Kids) → cap ≤ most_nodes → AheadF f (kid b t ks) → StepKid f b t ks
    step-kid b t ks small a = elim (truth (eqb f.link 0)) [
      | holds q ↦
          let e : f.link ≡ 0 = eqb-true f.link 0 q in
          let l : f.group < 7 = ahead_more cap pcap base N P a e in
          to_chain (first_in (kid b t ks) (f.group + 1)) l (next-chain (kid b t ks) a e l) (ahead-chain cap pcap base N P a e)
      | fails q ↦
          let k = ahead-kid cap pcap base N P a (eqb-false f.link 0 q) in
          to_kid k.next (to-child N cap f (root t) b k.next k.at k.inside k.word (omega (arith, k.short)) k.least k.most)
          k.tree k.sound (rw (add-one b) k.onward)
    ]

    pub step_end : AheadF f no_kid → StepEnd f
    step_end a = go (7 - f.group) refl
      where
        go : (n : ℕ) → 7 - f.group ≡ n → StepEnd f
        go zero e = to_up (to-up N cap f a.link (omega arith))
        go (suc n) e = end_chain 0 (omega arith) (next-chain no_kid a a.link (omega arith)) (ahead-chain cap pcap base N P a a.link)

  -- ---- and back
  pub placed-enter : (x : ℕ) → Placed (entered N cap x)
  unfolding entered
  placed-enter x = (omega arith, omega arith, omega arith)

  module _ (f : Frame) (p : Placed f) where
    pub placed-chain : (next : ℕ) → AtChain N cap f next → Placed (next_chain f next)
    placed-chain next a = (omega (arith, a.more), omega arith, omega arith)

    pub placed-child : (x byte next : ℕ) → AtChild N cap f x byte next → Placed (past_child f byte next)
    placed-child x byte next a = (p.0, omega (arith, a.least), omega (arith, a.most))

    pub back-up : AtEnd N cap f → AheadF f no_kid
    back-up a =
        record { link = a.done; later = λ h l m. absurd (omega (arith, a.last)); from = p.1; sound = tt; held = tt }

    pub back-chain : (next : ℕ) (ks : Kids) → AtChain N cap f next → AheadF (next_chain f next) ks → AheadF f ks
    back-chain next ks a c =
        record {
          link = a.done ∙ sym (none_below cap pcap ks (32 * (f.group + 1)) f.group c.sound (omega arith));
          later = λ h l m. go h l m (ℕ_discrete h (f.group + 1));
          from = p.1;
          sound = lower cap pcap ks f.least (32 * (f.group + 1)) (omega arith) c.sound;
          held = c.held;
        }
      where
        go : (h : ℕ) → f.group < h → h < 8 → Dec (h ≡ f.group + 1) → get_or N (head_at cap f.node h) 0 ≡ first_in ks h
        go h l m (yes e) = rw e (a.word ∙ c.link)
        go h l m (no e) = c.later h (omega (arith, e)) m

    pub back-child : (x byte next : ℕ) (t : Phys) (ks : Kids) → AtChild N cap f x byte next → root t ≡ x → Sound cap pcap t → Holds (cells cap base t) N P →
        AheadF (past_child f byte next) ks → AheadF f (kid byte t ks)
    back-child x byte next t ks a e s h c =
        let g : byte / 32 ≡ f.group = omega (arith, a.least, a.most) in
        record {
          link = omega (arith, first-here byte t ks f.group g, a.at);
          later = λ i l m. c.later i l m ∙ sym (first-other byte t ks i (omega arith));
          from = p.1;
          sound = (a.least, omega (arith, a.most), s, rw (add-one byte) at c.sound);
          held = (ap (λ n. get_or N n 0) e ∙ a.word ∙ ap (chain_word byte) (c.link ∙ ap (first_in ks) (sym g)), (h, c.held));
        }

  -- all children of a node
  pub back-all : (x : ℕ) (ks : Kids) → AheadF (entered N cap x) ks → Holds (kid_cells cap base ks x) N P × SoundK cap pcap ks 0
  unfolding entered
  back-all x ks a = ((held-heads cap x N P (first_in ks) 8 0 (λ h l m. go h m (ℕ_discrete h 0)), a.held), a.sound)
    where
      go : (h : ℕ) → h < 0 + 8 → Dec (h ≡ 0) → get_or N (head_at cap x h) 0 ≡ first_in ks h
      go h m (yes e) = rw e a.link
      go h m (no e) = a.later h (omega (arith, e)) (omega arith)
