-- Going through the children of a node with a cursor, by what lies in the tables.
use Prim.Native.Nat.{ℕ, zero, suc, ◌+◌, ◌*◌, ◌-◌, ◌<◌, ◌≤◌}
use native.Mathlib.Omega.{arith}
use mathlib.Core.Path.{◌≡◌, refl, sym, ap, ◌∙◌}
use mathlib.Core.List.{List}
use borrow.Author.Tests.{eqb-true, eqb-false}
use lib.Dec.{eqb}
use lib.ListN.{get_or}
use Rattle.std.specs.Prelude.{Some}
use Rattle.layout.specs.Nodes.{link_of, head_at, most_nodes}
use Rattle.children.specs.declared.cursor.Cursor.{Cursor}
use Rattle.children.specs.declared.cursor.Next.TheVariants.{Child, Chain, End}
use Rattle.children.specs.Heap.{Holds}
use Rattle.children.specs.Cursors.{all_of, seen, look_at, next_of}
use Rattle.children.specs.Phys.{Phys, Kids, no_kid, kid, root, first_in, cells, kid_cells, Sound, SoundK}
use Rattle.trie_laws.proofs.Lists.{holds, fails, truth}
use Rattle.children.proofs.Kids.{link-below, head-held}
use Rattle.children.proofs.Cursors.{step-along, step_end, step-chain}
use Rattle.children.proofs.Ahead.{Ahead, ahead-all, ahead-chain, ahead_more, ahead-kid}
use Rattle.children.proofs.Looks.{look-there}

-- the steps to other chains that a cursor may still make: 7 in all for a node
abbrev pub chains_left : Cursor → ℕ
chains_left c = c.last - c.at

-- a cursor at another place of the same node
abbrev pub moved : Cursor → ℕ → ℕ → Cursor
moved c at link = record { at = at; last = c.last; link = link }

module _ (cap pcap base : ℕ) (small : cap ≤ most_nodes) (N P : List ℕ) where
  -- the children that are still to come for a cursor
  pub record AheadC (c : Cursor) (ks : Kids) : Type 0 where
    pub node : ℕ
    pub chain : ℕ
    pub low : ℕ
    pub eight : chain < 8
    pub at : c.at ≡ head_at cap node chain
    pub last : c.last ≡ head_at cap node 7
    pub ahead : Ahead cap pcap base N P node chain c.link low ks

  pub all-ahead : (x : ℕ) (ks : Kids) → Holds (kid_cells cap base ks x) N P → SoundK cap pcap ks 0 → AheadC (all_of N cap x) ks
  unfolding all_of
  all-ahead x ks h s =
      let w : get_or N (head_at cap x 0) 0 ≡ first_in ks 0 = head-held cap x N P (first_in ks) 8 0 0 (omega arith) (omega arith) h.0 in
      let e : link_of (get_or N (head_at cap x 0) 0) ≡ first_in ks 0 = omega (arith, link-below cap pcap ks 0 0 s) in
      record { node = x; chain = 0; low = 0; eight = omega arith; at = refl; last = refl; ahead = rw e (ahead-all cap pcap base N P x ks h s) }

  pub all-chains : (x : ℕ) → chains_left (all_of N cap x) ≡ 7
  unfolding all_of
  all-chains x = omega arith

  -- where a child is to come: to the next chain, or to the child
  pub data NextKid (c : Cursor) (b : ℕ) (t : Phys) (ks : Kids) : Type 0 where
    to_chain : (l : ℕ) → 0 < chains_left c → next_of N cap c ≡ Some (Chain (c.at + 1) l) → AheadC (moved c (c.at + 1) l) (kid b t ks) → NextKid c b t ks
    to_kid : (l : ℕ) → c.link ≡ root t + 1 → next_of N cap c ≡ Some (Child (root t) b l) → Holds (cells cap base t) N P → Sound cap pcap t → AheadC (moved c c.at l) ks → NextKid c b t ks

  -- where none is: to the next chain, or to the end
  pub data NextEnd (c : Cursor) : Type 0 where
    end_chain : (l : ℕ) → 0 < chains_left c → next_of N cap c ≡ Some (Chain (c.at + 1) l) → AheadC (moved c (c.at + 1) l) no_kid → NextEnd c
    to_end : next_of N cap c ≡ Some End → NextEnd c

  module _ (c : Cursor) where
    onward : (ks : Kids) (a : AheadC c ks) → c.link ≡ 0 → a.chain < 7 → AheadC (moved c (c.at + 1) (first_in ks (a.chain + 1))) ks
    onward ks a e l =
        record {
          node = a.node;
          chain = a.chain + 1;
          low = 32 * (a.chain + 1);
          eight = omega arith;
          at = omega (arith, a.at);
          last = a.last;
          ahead = ahead-chain cap pcap base N P a.ahead e;
        }

    next-chain : (ks : Kids) (a : AheadC c ks) → c.link ≡ 0 → a.chain < 7 → next_of N cap c ≡ Some (Chain (c.at + 1) (first_in ks (a.chain + 1)))
    next-chain ks a e l =
        let here : c.at + 1 ≡ head_at cap a.node (a.chain + 1) = omega (arith, a.at) in
        let w : get_or N (head_at cap a.node (a.chain + 1)) 0 ≡ first_in ks (a.chain + 1) = a.ahead.later (a.chain + 1) (omega arith) (omega arith) in
        let link : first_in ks (a.chain + 1) ≡ link_of (get_or N (c.at + 1) 0) =
        rw here (omega (arith, link-below cap pcap ks a.low (a.chain + 1) a.ahead.sound)) in
        sym (step-chain N cap c e (omega (arith, a.at, a.last)) (first_in ks (a.chain + 1)) link)

    pub next-kid : (b : ℕ) (t : Phys) (ks : Kids) → AheadC c (kid b t ks) → NextKid c b t ks
    next-kid b t ks a = elim (truth (eqb c.link 0)) [
      | holds q ↦
          let e : c.link ≡ 0 = eqb-true c.link 0 q in
          let l : a.chain < 7 = ahead_more cap pcap base N P a.ahead e in
          to_chain (first_in (kid b t ks) (a.chain + 1)) (omega (arith, a.at, a.last)) (next-chain (kid b t ks) a e l) (onward (kid b t ks) a e l)
      | fails q ↦
          let some : c.link ≡ 0 → ⊥ = eqb-false c.link 0 q in
          let k = ahead-kid cap pcap base N P a.ahead some in
          let saw : look_at N cap c.link ≡ seen (root t) b k.next =
          ap (look_at N cap) k.at ∙ look-there cap small N (root t) b k.next k.inside k.word k.short in
          to_kid k.next k.at (sym (step-along N cap c some (look_at N cap c.link) refl (seen (root t) b k.next) saw))
          k.tree k.sound
          (record { node = a.node; chain = a.chain; low = suc b; eight = a.eight; at = a.at; last = a.last; ahead = k.onward })
    ]

    pub next-end : AheadC c no_kid → NextEnd c
    next-end a = go (7 - a.chain) refl
      where
        go : (n : ℕ) → 7 - a.chain ≡ n → NextEnd c
        go zero e = to_end (sym (step_end N cap c a.ahead.link (omega (arith, a.at, a.last, a.eight))))
        go (suc n) e =
            end_chain 0 (omega (arith, a.at, a.last)) (next-chain no_kid a a.ahead.link (omega arith)) (onward no_kid a a.ahead.link (omega arith))
