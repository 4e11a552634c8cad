-- What a link to a child leads to, by its word; and the way to the child of one byte y, link by link, by what lies in the tables.
use Prim.Native.Nat.{ℕ, suc, ◌+◌, ◌-◌, ◌<◌, ◌≤◌}
use native.Mathlib.Omega.{arith}
use mathlib.Core.Path.{◌≡◌, sym, ap, ◌∙◌}
use mathlib.Core.List.{List}
use lib.ListN.{get_or}
use Rattle.layout.specs.Nodes.{link_of, byte_of, chain_word, most_nodes}
use Rattle.children.specs.Heap.{Holds}
use Rattle.children.specs.Cursors.{seen, look_at}
use Rattle.children.specs.Phys.{Phys, Kids, no_kid, kid, root, cells, Sound}
use Rattle.children.proofs.Cursors.{look-child}
use Rattle.children.proofs.Ahead.{Along, elsewhere, linked, along-kid}

module _ (cap : ℕ) (small : cap ≤ most_nodes) (N : List ℕ) where
  -- child x of byte b, with a link after it
  pub look-there : (x b next : ℕ) → x < cap → get_or N x 0 ≡ chain_word b next → next ≤ cap → look_at N cap (x + 1) ≡ seen x b next
  look-there x b next i w s =
      let back : x + 1 - 1 ≡ x = omega arith in
      let byte : b ≡ byte_of (get_or N (x + 1 - 1) 0) = rw back (omega arith) in
      let link : next ≡ link_of (get_or N (x + 1 - 1) 0) = rw back (omega arith) in
      sym (look-child N cap (x + 1) (omega arith) (omega arith) b next byte link) ∙ ap (λ n. seen n b next) back

  module _ (pcap base : ℕ) (P : List ℕ) (y l : ℕ) where
    -- where a child is to come: it is not on the way, or the link leads to it
    pub data LookKid (b : ℕ) (t : Phys) (ks : Kids) : Type 0 where
      aside : (b ≡ y → ⊥) → Along cap pcap base N P y l (suc b) ks → LookKid b t ks
      there : (next : ℕ) → l ≡ root t + 1 → look_at N cap (root t + 1) ≡ seen (root t) b next → Holds (cells cap base t) N P → Sound cap pcap t →
          Along cap pcap base N P y next (suc b) ks → LookKid b t ks

    pub look-kid : (lo b : ℕ) (t : Phys) (ks : Kids) → Along cap pcap base N P y l lo (kid b t ks) → LookKid b t ks
    look-kid lo b t ks a = elim (along-kid cap pcap base N P y l lo b t ks a) [
      | elsewhere n o ↦ aside n o
      | linked next e i w s o ↦ there next e (look-there (root t) b next i w s) a.held.1.0 a.sound.2 o
    ]

    -- where none is, the link leads nowhere
    pub look-end : {lo : ℕ} → Along cap pcap base N P y l lo no_kid → l ≡ 0
    look-end a = a.link
