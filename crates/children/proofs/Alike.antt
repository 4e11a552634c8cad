-- The tables determine the children of a node: two lists that lie there have the same nodes and bytes.
use Prim.Native.Nat.{ℕ, suc, ◌/◌, ◌<◌, ◌≤◌}
use native.Mathlib.Omega.{arith}
use mathlib.Core.Path.{◌≡◌, refl, sym, ap, ◌∙◌}
use mathlib.Core.List.{List}
use borrow.Author.Tests.{eqb-true, eqb-false}
use lib.Dec.{eqb}
use lib.ListN.{get_or}
use Rattle.layout.specs.Nodes.{chain_word, head_at, most_nodes}
use Rattle.children.specs.Heap.{Holds}
use Rattle.children.specs.Phys.{Phys, Kids, no_kid, kid, root, first_in, cells, linked_cells, kid_cells, SoundK}
use Rattle.trie_laws.proofs.Lists.{holds, fails, truth, less, same, more, compared}
use Rattle.children.proofs.Kids.{first-here, first-other, link-below, none_below, head-held}

module _ (cap pcap base : ℕ) (small : cap ≤ most_nodes) (N P : List ℕ) where
  -- two lists that lie in the tables, with the same links chain by chain
  pub record Alike (ks js : Kids) (lo lo' : ℕ) : Type 0 where
    pub links : (g : ℕ) → g < 8 → first_in ks g ≡ first_in js g
    pub left : Holds (linked_cells cap base ks) N P
    pub right : Holds (linked_cells cap base js) N P
    pub left_sound : SoundK cap pcap ks lo
    pub right_sound : SoundK cap pcap js lo'

  flip : {ks js : Kids} {lo lo' : ℕ} → Alike ks js lo lo' → Alike js ks lo' lo
  flip a = record { links = λ g l. sym (a.links g l); left = a.right; right = a.left; left_sound = a.right_sound; right_sound = a.left_sound }

  -- those of one node
  pub alike-node : (ks js : Kids) (n m : ℕ) → n ≡ m → Holds (kid_cells cap base ks n) N P → Holds (kid_cells cap base js m) N P → SoundK cap pcap ks 0 → SoundK cap pcap js 0
      → Alike ks js 0 0
  alike-node ks js n m e h i a b =
      record {
        links = λ g l.
            sym (head-held cap n N P (first_in ks) 8 0 g (omega arith) (omega arith) h.0) ∙ ap (λ x. get_or N (head_at cap x g) 0) e
            ∙ head-held cap m N P (first_in js) 8 0 g (omega arith) (omega arith) i.0;
        left = h.1;
        right = i.1;
        left_sound = a;
        right_sound = b;
      }

  -- both end, or none
  pub alike_end : {b : ℕ} {t : Phys} {ks : Kids} {lo lo' : ℕ} → Alike no_kid (kid b t ks) lo lo' → ⊥
  alike_end {b} {t} {ks} a = omega (arith, a.links (b / 32) (omega (arith, a.right_sound.1)), first-here b t ks (b / 32) refl)

  pub alike-start : {b : ℕ} {t : Phys} {ks : Kids} {lo lo' : ℕ} → Alike (kid b t ks) no_kid lo lo' → ⊥
  alike-start a = alike_end (flip a)

  -- the first child of one is not in a chain below that of the other
  not-below : {b : ℕ} {t : Phys} {ks : Kids} {c : ℕ} {u : Phys} {js : Kids} {lo lo' : ℕ} → Alike (kid b t ks) (kid c u js) lo lo' → b / 32 < c / 32 → ⊥
  not-below {b} {t} {ks} {c} {u} {js} a m =
      let r = a.right_sound in
      omega (
        arith,
        a.links (b / 32) (omega (arith, a.left_sound.1)),
        first-here b t ks (b / 32) refl,
        none_below cap pcap (kid c u js) c (b / 32) (omega arith, r.1, r.2, r.3) (omega arith),
      )

  -- ---- two first children
  module _ {b : ℕ} {t : Phys} {ks : Kids} {c : ℕ} {u : Phys} {js : Kids} {lo lo' : ℕ} (a : Alike (kid b t ks) (kid c u js) lo lo') where
    same-chain : b / 32 ≡ c / 32
    same-chain = elim (compared (b / 32) (c / 32)) [
      | less l tests ↦ absurd (not-below a l)
      | same e tests ↦ e
      | more l tests ↦ absurd (not-below (flip a) l)
    ]

    pub same-root : root t ≡ root u
    same-root =
        omega (arith, a.links (b / 32) (omega (arith, a.left_sound.1)), first-here b t ks (b / 32) refl, first-here c u js (b / 32) (sym same-chain))

    words : chain_word b (first_in ks (b / 32)) ≡ chain_word c (first_in js (c / 32))
    words = sym a.left.0 ∙ ap (λ x. get_or N x 0) same-root ∙ a.right.0

    pub same_byte : b ≡ c
    same_byte = omega (arith, words, link-below cap pcap ks (suc b) (b / 32) a.left_sound.3, link-below cap pcap js (suc c) (c / 32) a.right_sound.3)

    same_next : first_in ks (b / 32) ≡ first_in js (c / 32)
    same_next = omega (arith, words, link-below cap pcap ks (suc b) (b / 32) a.left_sound.3, link-below cap pcap js (suc c) (c / 32) a.right_sound.3)

    same-links : (g : ℕ) → g < 8 → first_in ks g ≡ first_in js g
    same-links g l = elim (truth (eqb (b / 32) g)) [
      | holds q ↦
          let e : b / 32 ≡ g = eqb-true (b / 32) g q in
          ap (first_in ks) (sym e) ∙ same_next ∙ ap (first_in js) (sym same-chain ∙ e)
      | fails q ↦
          let e : b / 32 ≡ g → ⊥ = eqb-false (b / 32) g q in
          sym (first-other b t ks g e) ∙ a.links g l ∙ first-other c u js g (λ z. e (same-chain ∙ z))
    ]

    -- their trees, and the others
    pub left-tree : Holds (cells cap base t) N P
    left-tree = a.left.1.0

    pub right-tree : Holds (cells cap base u) N P
    right-tree = a.right.1.0

    pub alike_next : Alike ks js (suc b) (suc c)
    alike_next = record { links = same-links; left = a.left.1.1; right = a.right.1.1; left_sound = a.left_sound.3; right_sound = a.right_sound.3 }
