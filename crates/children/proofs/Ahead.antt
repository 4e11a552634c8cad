-- The children of node x that are still to come, where one goes through them: link l leads to the first of them in chain g, the heads of the
-- later chains to the others, and their bytes are lo or more.
use Prim.Native.Nat.{ℕ, suc, ◌+◌, ◌*◌, ◌/◌, ◌<◌, ◌≤◌}
use native.Mathlib.Omega.{arith}
use mathlib.Core.Path.{◌≡◌, refl, sym, ap, ◌∙◌}
use mathlib.Core.List.{List}
use borrow.Author.Tests.{eqb-true, eqb-false}
use lib.Dec.{eqb}
use lib.ListN.{get_or}
use Rattle.layout.specs.Nodes.{chain_word, head_at, most_nodes}
use Rattle.children.specs.Heap.{Holds}
use Rattle.children.specs.Cursors.{first_for}
use Rattle.children.specs.Phys.{Phys, Kids, kid, root, first_in, cells, linked_cells, kid_cells, Sound, SoundK}
use Rattle.trie_laws.proofs.Lists.{holds, fails, truth}
use Rattle.children.proofs.Kids.{first-here, first-other, root_below, link-below, none_below, past-chain, head-held}

module _ (cap pcap base : ℕ) (N P : List ℕ) where
  pub record Ahead (x g l lo : ℕ) (ks : Kids) : Type 0 where
    pub link : l ≡ first_in ks g
    pub later : (h : ℕ) → g < h → h < 8 → get_or N (head_at cap x h) 0 ≡ first_in ks h
    pub from : 32 * g ≤ lo
    pub sound : SoundK cap pcap ks lo
    pub held : Holds (linked_cells cap base ks) N P

  -- all of them
  pub ahead-all : (x : ℕ) (ks : Kids) → Holds (kid_cells cap base ks x) N P → SoundK cap pcap ks 0 → Ahead x 0 (first_in ks 0) 0 ks
  ahead-all x ks h s =
      record {
        link = refl;
        later = λ g l m. head-held cap x N P (first_in ks) 8 0 g (omega arith) (omega arith) h.0;
        from = omega arith;
        sound = s;
        held = h.1;
      }

  -- the link leads to the first child, which is followed by the others
  pub record AtKid (x g l lo b : ℕ) (t : Phys) (ks : Kids) : Type 0 where
    pub next : ℕ
    pub at : l ≡ root t + 1
    pub inside : root t < cap
    pub word : get_or N (root t) 0 ≡ chain_word b next
    pub short : next ≤ cap
    pub least : lo ≤ b
    pub most : b < 32 * g + 32
    pub tree : Holds (cells cap base t) N P
    pub sound : Sound cap pcap t
    pub onward : Ahead x g next (suc b) ks

  module _ {x g l lo : ℕ} where
    -- those in the next chain and after it
    pub ahead-chain : {ks : Kids} → Ahead x g l lo ks → l ≡ 0 → Ahead x (g + 1) (first_in ks (g + 1)) (32 * (g + 1)) ks
    ahead-chain {ks} a e =
        let q : 32 * g + 32 ≡ 32 * (g + 1) = omega arith in
        record {
          link = refl;
          later = λ h i j. a.later h (omega arith) j;
          from = omega arith;
          sound = rw q at (past-chain cap pcap ks lo g a.sound a.from (sym a.link ∙ e));
          held = a.held;
        }

    -- there is a next chain
    pub ahead_more : {b : ℕ} {t : Phys} {ks : Kids} → Ahead x g l lo (kid b t ks) → l ≡ 0 → g < 7
    ahead_more {b} {t} {ks} a e = omega (arith, a.sound.1, (past-chain cap pcap (kid b t ks) lo g a.sound a.from (sym a.link ∙ e)).0)

    pub ahead-kid : {b : ℕ} {t : Phys} {ks : Kids} → Ahead x g l lo (kid b t ks) → (l ≡ 0 → ⊥) → AtKid x g l lo b t ks
    ahead-kid {b} {t} {ks} a some = elim (truth (eqb (b / 32) g)) [
      | holds q ↦
          let e : b / 32 ≡ g = eqb-true (b / 32) g q in
          record {
            next = first_in ks g;
            at = a.link ∙ first-here b t ks g e;
            inside = root_below cap pcap t a.sound.2;
            word = a.held.0 ∙ ap (λ h. chain_word b (first_in ks h)) e;
            short = link-below cap pcap ks (suc b) g a.sound.3;
            least = a.sound.0;
            most = omega arith;
            tree = a.held.1.0;
            sound = a.sound.2;
            onward = record {
              link = refl;
              later = λ h i j. a.later h i j ∙ first-other b t ks h (omega arith);
              from = omega (arith, a.from, a.sound.0);
              sound = a.sound.3;
              held = a.held.1.1;
            };
          }
      | fails q ↦
          let e : b / 32 ≡ g → ⊥ = eqb-false (b / 32) g q in
          absurd (some (a.link ∙ first-other b t ks g e ∙ none_below cap pcap ks (suc b) g a.sound.3 (far e a.from a.sound.0)))
    ]
      where
        far : (b / 32 ≡ g → ⊥) → 32 * g ≤ lo → lo ≤ b → 32 * g + 32 ≤ suc b
        far e f s = omega (arith, e)

  -- ---- along the chain of one byte y: link l leads to the first of some children there
  pub record Along (y l lo : ℕ) (ks : Kids) : Type 0 where
    pub link : l ≡ first_in ks (y / 32)
    pub sound : SoundK cap pcap ks lo
    pub held : Holds (linked_cells cap base ks) N P

  pub along-all : cap ≤ most_nodes → (x y : ℕ) (ks : Kids) → y < 256 → Holds (kid_cells cap base ks x) N P → SoundK cap pcap ks 0 → Along y (first_for N cap x y) 0 ks
  unfolding first_for
  along-all small x y ks l h s =
      let w : get_or N (head_at cap x (y / 32)) 0 ≡ first_in ks (y / 32) = head-held cap x N P (first_in ks) 8 0 (y / 32) (omega arith) (omega arith) h.0 in
      record { link = omega (arith, link-below cap pcap ks 0 (y / 32) s); sound = s; held = h.1 }

  -- past the first child: it is in another chain, or the link leads to it
  pub data AlongKid (y l lo b : ℕ) (t : Phys) (ks : Kids) : Type 0 where
    elsewhere : (b ≡ y → ⊥) → Along y l (suc b) ks → AlongKid y l lo b t ks
    linked : (next : ℕ) → l ≡ root t + 1 → root t < cap → get_or N (root t) 0 ≡ chain_word b next → next ≤ cap → Along y next (suc b) ks → AlongKid y l lo b t ks

  pub along-kid : (y l lo b : ℕ) (t : Phys) (ks : Kids) → Along y l lo (kid b t ks) → AlongKid y l lo b t ks
  along-kid y l lo b t ks a = elim (truth (eqb (b / 32) (y / 32))) [
    | holds q ↦
        let e : b / 32 ≡ y / 32 = eqb-true (b / 32) (y / 32) q in
        linked (first_in ks (y / 32)) (a.link ∙ first-here b t ks (y / 32) e) (root_below cap pcap t a.sound.2)
        (a.held.0 ∙ ap (λ h. chain_word b (first_in ks h)) e) (link-below cap pcap ks (suc b) (y / 32) a.sound.3)
        (record { link = refl; sound = a.sound.3; held = a.held.1.1 })
    | fails q ↦
        let e : b / 32 ≡ y / 32 → ⊥ = eqb-false (b / 32) (y / 32) q in
        elsewhere (λ z. e (ap (λ n. n / 32) z)) (record { link = a.link ∙ first-other b t ks (y / 32) e; sound = a.sound.3; held = a.held.1.1 })
  ]
