-- The pages of each leaf that a walk over a trie gives lie in the tables.
use Prim.Native.Nat.{ℕ, suc, ◌-◌, ◌*◌, ◌^◌, ◌<◌}
use native.Mathlib.Decide.{ℕ_discrete}
use mathlib.Core.Bool.{cond}
use mathlib.Core.List.{List, [], ◌∷◌}
use lib.Bits.{bit_xor}
use lib.Dec.{leb}
use lib.ListN.{length, get_or, drop}
use lib.Seq.{drop-cons}
use Rattle.meaning.specs.Sketch.{per_byte, byte_distance}
use Rattle.meaning.specs.Trie.{met}
use Rattle.children.specs.Heap.{Holds}
use Rattle.children.specs.Phys.{Phys, Kids, leaf_p, inner_p, no_kid, kid, tree, children_of, cells, Sound, SoundK}
use Rattle.children.proofs.Claims.{Trees, kid-trees}
use Rattle.walk_steps.specs.Given.{Given}
use Rattle.children.specs.Held.{Held}
use Rattle.walk_laws.proofs.Fit.{Small, Fit, FitK}
use Rattle.walk_laws.proofs.Exact.{exact-held, exact_below}
use Rattle.walk_laws.proofs.Lists.{lists, lists_in, lists-none, lists-some, held-append, held-some}

module _ (w : Given) (P : List ℕ) (pcap base : ℕ) (small : Small w.cap pcap) (query : (k : ℕ) → get_or w.bytes k 0 < 2 ^ (w.b * per_byte w.b)) where
  mutual
    unfolding lists lists_in met

    -- a node at a level
    pub held-tree : (t : Phys) (k r : ℕ) → Holds (cells w.cap base t) w.nodes P → Sound w.cap pcap t → Fit w.b (length w.bytes) t k
        → Held base pcap (lists w.b r (tree t) (drop k w.bytes)) w.nodes P
    held-tree (leaf_p x ps) k r h s u = (h.1.1, s.1, tt)
    held-tree (inner_p x ks) k r h s u = elim (ℕ_discrete r 0) [
      | yes z ↦
          rw (lists-none w.b (tree (inner_p x ks)) r (drop k w.bytes) z)
          (exact-held w P pcap base small query (inner_p x ks) k h s u, exact_below w P pcap base small query (inner_p x ks) k h s u, tt)
      | no z ↦
          rw (lists-some w.b (children_of ks) r (drop k w.bytes) z, drop-cons w.bytes k 0 u.0)
          (held-kids ks k r 0 (kid-trees w.cap base w.nodes P ks x h.1) s.1 u.1)
    ]

    held-kids : (ks : Kids) (k r lo : ℕ) → Trees w.cap base w.nodes P ks → SoundK w.cap pcap ks lo → FitK w.b (length w.bytes) ks k
        → Held base pcap (lists_in w.b r (children_of ks) (get_or w.bytes k 0 ∷ drop (suc k) w.bytes)) w.nodes P
    held-kids no_kid k r lo h s u = tt
    held-kids (kid c t ks) k r lo h s u =
        let d : ℕ = byte_distance w.b (bit_xor c (get_or w.bytes k 0)) in
        let below : List (List ℕ) = lists w.b (r - d) (tree t) (drop (suc k) w.bytes) in
        held-append base pcap w.nodes P (cond (leb d r) below []) (lists_in w.b r (children_of ks) (get_or w.bytes k 0 ∷ drop (suc k) w.bytes))
        (held-some base pcap w.nodes P (leb d r) below (held-tree t (suc k) (r - d) h.0 s.2 u.1)) (held-kids ks k r (suc c) h.1 s.3 u.2)
