-- Going with a cursor to the next child of a node, or to the end: over the chains that have no more children.
use Prim.Native.Nat.{ℕ, zero, suc, ◌+◌, ◌<◌, ◌≤◌}
use native.Mathlib.Omega.{arith}
use mathlib.Core.Path.{◌≡◌, refl}
use mathlib.Core.List.{List}
use Rattle.std.specs.Prelude.{Some}
use Rattle.layout.specs.Nodes.{most_nodes}
use Rattle.children.specs.declared.cursor.Cursor.{Cursor}
use Rattle.children.specs.declared.cursor.Next.TheVariants.{Child, Chain, End}
use Rattle.children.specs.Heap.{Holds}
use Rattle.children.specs.Cursors.{next_of}
use Rattle.children.specs.Phys.{Phys, Kids, no_kid, kid, root, cells, Sound}
use Rattle.children.proofs.AheadCursor.{AheadC, moved, chains_left, to_chain, to_kid, end_chain, to_end, next-kid, next-end}

-- k steps to other chains
abbrev pub Over : List ℕ → ℕ → ℕ → Cursor → Cursor → Type 0
Over N cap zero c d = c ≡ d
Over N cap (suc k) c d = (l : ℕ) × (next_of N cap c ≡ Some (Chain (c.at + 1) l)) × Over N cap k (moved c (c.at + 1) l) d

module _ (cap pcap base : ℕ) (small : cap ≤ most_nodes) (N P : List ℕ) where
  -- to the next child
  pub record ReachKid (c : Cursor) (b : ℕ) (t : Phys) (ks : Kids) : Type 0 where
    pub steps : ℕ
    pub here : Cursor
    pub over : Over N cap steps c here
    pub few : steps + chains_left here ≤ chains_left c
    pub link : ℕ
    pub at : here.link ≡ root t + 1
    pub next : next_of N cap here ≡ Some (Child (root t) b link)
    pub tree : Holds (cells cap base t) N P
    pub sound : Sound cap pcap t
    pub onward : AheadC cap pcap base small N P (moved here here.at link) ks

  -- to the end
  pub record ReachEnd (c : Cursor) : Type 0 where
    pub steps : ℕ
    pub here : Cursor
    pub over : Over N cap steps c here
    pub few : steps ≤ chains_left c
    pub next : next_of N cap here ≡ Some End

  kid-within : (k : ℕ) (c : Cursor) (b : ℕ) (t : Phys) (ks : Kids) → chains_left c < k → AheadC cap pcap base small N P c (kid b t ks) → ReachKid c b t ks
  kid-within zero c b t ks m a = absurd (omega arith)
  kid-within (suc k) c b t ks m a = elim (next-kid cap pcap base small N P c b t ks a) [
    | to_chain l some e o ↦
        let r = kid-within k (moved c (c.at + 1) l) b t ks (omega arith) o in
        record {
          steps = suc r.steps;
          here = r.here;
          over = (l, e, r.over);
          few = omega (arith, r.few);
          link = r.link;
          at = r.at;
          next = r.next;
          tree = r.tree;
          sound = r.sound;
          onward = r.onward;
        }
    | to_kid l at e h s o ↦
        record { steps = 0; here = c; over = refl; few = omega arith; link = l; at = at; next = e; tree = h; sound = s; onward = o }
  ]

  pub reach-kid : (c : Cursor) (b : ℕ) (t : Phys) (ks : Kids) → AheadC cap pcap base small N P c (kid b t ks) → ReachKid c b t ks
  reach-kid c b t ks a = kid-within (suc (chains_left c)) c b t ks (omega arith) a

  end-within : (k : ℕ) (c : Cursor) → chains_left c < k → AheadC cap pcap base small N P c no_kid → ReachEnd c
  end-within zero c m a = absurd (omega arith)
  end-within (suc k) c m a = elim (next-end cap pcap base small N P c a) [
    | end_chain l some e o ↦
        let r = end-within k (moved c (c.at + 1) l) (omega arith) o in
        record { steps = suc r.steps; here = r.here; over = (l, e, r.over); few = omega (arith, r.few); next = r.next }
    | to_end e ↦ record { steps = 0; here = c; over = refl; few = omega arith; next = e }
  ]

  pub reach-end : (c : Cursor) → AheadC cap pcap base small N P c no_kid → ReachEnd c
  reach-end c a = end-within (suc (chains_left c)) c (omega arith) a
