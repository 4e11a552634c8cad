-- On tables that hold a trie, an exact descent from a node ends at the leaf whose pages are met at radius 0, and goes to the nodes of `near`.
use Prim.Native.Nat.{ℕ, suc, ◌+◌, ◌≤◌}
use native.Mathlib.Omega.{arith}
use mathlib.Core.Path.{◌≡◌, refl, sym, ap, ◌∙◌, subst}
use mathlib.Core.List.{List, [], ◌∷◌, append-nil}
use lib.Bits.{bit_xor, xor_self}
use lib.ListN.{length}
use Rattle.meaning.specs.Sketch.{byte_distance}
use Rattle.meaning.specs.Trie.{met, met_in, nodes, nodes_in}
use Rattle.sketch_laws.proofs.ByteDistance.{byte-distance-zero}
use Rattle.layout.proofs.States.{inner-kind}
use Rattle.children.proofs.Leaves.{held-kind}
use Rattle.children.specs.Cursors.{seen, look_at, first_for}
use Rattle.children.specs.Heap.{Holds}
use Rattle.children.specs.Phys.{Phys, Kids, leaf_p, inner_p, no_kid, kid, root, first, tree, children_of, page_cells, cells, Below, Sound, SoundK}
use Rattle.children.proofs.Ahead.{Along, along-all}
use Rattle.children.proofs.Looks.{aside, there, look-kid, look-end}
use Rattle.trie_laws.proofs.Lists.{less, same, more, compared}
use Rattle.descent.specs.declared.Cursor.{Cursor}
use Rattle.descent.specs.Cursor.{ended, ahead, arrive}
use Rattle.descent.proofs.Steps.{arrive-leaf, arrive-inner}
use Rattle.walk_laws.specs.Near.{near, near_k}
use Rattle.walk_laws.proofs.Descent.{Led, led-end, led-within, led-less, led-more, led-same}
use Rattle.walk_laws.proofs.Spelt.{Spelt}
use Rattle.walk_laws.proofs.Fit.{Small, Fit, FitK, byte_small, apart-met, apart-near, unmet, none-near}

-- the steps that a descent below a node can cost: one for each of the nodes
abbrev mutual
  pub steps_below : Phys → ℕ
  steps_below (leaf_p n ps) = 0
  steps_below (inner_p n ks) = steps_among ks

  pub steps_among : Kids → ℕ
  steps_among no_kid = 0
  steps_among (kid c t ks) = suc (steps_below t) + steps_among ks

mutual
  unfolding nodes nodes_in

  pub steps-below : (t : Phys) → suc (steps_below t) ≡ nodes (tree t)
  steps-below (leaf_p n ps) = refl
  steps-below (inner_p n ks) = ap suc (steps-among ks)

  steps-among : (ks : Kids) → steps_among ks ≡ nodes_in (children_of ks)
  steps-among no_kid = refl
  steps-among (kid c t ks) = omega (arith, steps-below t, steps-among ks)

-- the nodes near the query's bytes below the root
abbrev pub near_below : ℕ → Phys → List ℕ → List ℕ
near_below b (leaf_p x ps) ys = []
near_below b (inner_p x ks) ys = near_k b 0 ks ys

pub near-below : (b : ℕ) (t : Phys) (ys : List ℕ) → root t ∷ near_below b t ys ≡ near b 0 t ys
unfolding near
near-below b (leaf_p x ps) ys = refl
near-below b (inner_p x ks) ys = refl

-- ---- the child of the query's byte, at radius 0, where no other is met
module _ (b c y : ℕ) (ys : List ℕ) (t : Phys) (ks : Kids) (e : c ≡ y) where
  at_none : byte_distance b (bit_xor c y) ≡ 0
  at_none = ap (λ k. byte_distance b (bit_xor c k)) (sym e) ∙ ap (byte_distance b) (xor_self c) ∙ byte-distance-zero b

  same_met : met_in b 0 (children_of ks) (y ∷ ys) ≡ [] → met_in b 0 (children_of (kid c t ks)) (y ∷ ys) ≡ met b 0 (tree t) ys
  unfolding met_in
  same_met n = rw (at_none, n) (append-nil (met b 0 (tree t) ys))

  same-near : near_k b 0 ks (y ∷ ys) ≡ [] → near_k b 0 (kid c t ks) (y ∷ ys) ≡ root t ∷ near_below b t ys
  unfolding near_k
  same-near n = rw (at_none, n) (append-nil (near b 0 t ys)) ∙ sym (near-below b t ys)

module _ (N P : List ℕ) (cap pcap base b len : ℕ) (bytes : List ℕ) (last : ℕ) (small : Small cap pcap) where
  -- a descent ends at the leaf of some pages, which are held, and goes to some nodes
  pub record Leads (c : Cursor) (ps xs : List ℕ) (cost : ℕ) : Type 0 where
    pub led : Led N cap bytes c (first ps) cost xs
    pub held : Holds (page_cells base ps) N P
    pub below : Below pcap ps

  -- by equations
  leads-same : {c d : Cursor} {ps qs xs ys : List ℕ} {m n : ℕ} → c ≡ d → ps ≡ qs → xs ≡ ys → m ≤ n → Leads d qs ys m → Leads c ps xs n
  leads-same {c} {d} {ps} {qs} {xs} {ys} {m} {n} e p q l a =
      subst (λ z. Leads z ps xs n) (sym e)
      (subst (λ zs. Leads d zs xs n) (sym p)
      (subst (λ zs. Leads d qs zs n) (sym q)
      (record { led = led-within N cap bytes d (first qs) m n ys l a.led; held = a.held; below = a.below })))

  leads-none : {c : Cursor} {cost : ℕ} → Led N cap bytes c 0 cost [] → Leads c [] [] cost
  leads-none l = record { led = l; held = tt; below = tt }

  -- what the children lead to from a link on
  abbrev Among : Kids → ℕ → ℕ → List ℕ → ℕ → Type 0
  Among ks link y ys at = Leads (ahead link at last) (met_in b 0 (children_of ks) (y ∷ ys)) (near_k b 0 ks (y ∷ ys)) (steps_among ks)

  -- a child that the link leads to, and those after it
  child-leads : (c : ℕ) (t : Phys) (ks : Kids) (link y : ℕ) (ys : List ℕ) (k at : ℕ) → look_at N cap (root t + 1) ≡ seen (root t) c link
      → SoundK cap pcap ks (suc c) → FitK b len (kid c t ks) k → Spelt b bytes last (y ∷ ys) at → Among ks link y ys at
      → Leads (arrive N cap bytes (root t) (at + 1) last) (met b 0 (tree t) ys) (near_below b t ys) (steps_below t) → Among (kid c t ks) (root t + 1) y ys at
  child-leads c t ks link y ys k at saw s u q along down = elim (compared c y) [
    | less l tests ↦
        leads-same refl (apart-met b y ys q.2 c t ks u.0 (omega arith)) (apart-near b y ys q.2 c t ks u.0 (omega arith)) (omega arith)
        (record {
          led = led-less N cap bytes (root t) c link at last y saw q.0 (first (met_in b 0 (children_of ks) (y ∷ ys))) (steps_among ks)
              (near_k b 0 ks (y ∷ ys)) l along.led;
          held = along.held;
          below = along.below;
        })
    | same e tests ↦
        leads-same refl (same_met b c y ys t ks e (unmet b y ys q.2 cap pcap len ks (suc c) k s u.2 (omega arith)))
        (same-near b c y ys t ks e (none-near b y ys q.2 cap pcap len ks (suc c) k s u.2 (omega arith))) (omega arith)
        (record {
          led = led-same N cap bytes (root t) c link at last y saw q.0 (first (met b 0 (tree t) ys)) (steps_below t) (near_below b t ys) e down.led;
          held = down.held;
          below = down.below;
        })
    | more l tests ↦
        leads-same refl
        (apart-met b y ys q.2 c t ks u.0 (omega arith) ∙ unmet b y ys q.2 cap pcap len ks (suc c) k s u.2 (omega arith))
        (apart-near b y ys q.2 c t ks u.0 (omega arith) ∙ none-near b y ys q.2 cap pcap len ks (suc c) k s u.2 (omega arith)) (omega arith)
        (leads-none (led-more N cap bytes (root t) c link at last y saw q.0 l))
  ]

  mutual
    unfolding met near_k

    -- a node at level k
    pub tree-leads : (t : Phys) (ys : List ℕ) (k at : ℕ) → Holds (cells cap base t) N P → Sound cap pcap t → Fit b len t k → len ≤ k + length ys
        → Spelt b bytes last ys at → Leads (arrive N cap bytes (root t) at last) (met b 0 (tree t) ys) (near_below b t ys) (steps_below t)
    tree-leads (leaf_p x ps) ys k at h s u l q =
        leads-same (arrive-leaf N cap bytes x at last (first ps) (held-kind N cap x ps h.0 s.1 small.1)) refl refl (omega arith)
        (record { led = led-end N cap bytes (ended (first ps)) refl; held = h.1.1; below = s.1 })
    tree-leads (inner_p x ks) [] k at h s u l q = absurd (omega (arith, u.0))
    tree-leads (inner_p x ks) (y ∷ ys) k at h s u l q =
        leads-same
        (arrive-inner N cap bytes x at last (inner-kind N cap x h.0) q.1 ∙ ap (λ c. ahead (first_for N cap x c) at last) q.0)
        refl refl (omega arith)
        (kids-lead ks (first_for N cap x y) y ys k at 0
        (along-all cap pcap base N P small.0 x y ks (omega (arith, q.2, byte_small b)) h.1 s.1) u.1 l q)

    kids-lead : (ks : Kids) (link y : ℕ) (ys : List ℕ) (k at lo : ℕ) → Along cap pcap base N P y link lo ks → FitK b len ks k → len ≤ k + length (y ∷ ys)
        → Spelt b bytes last (y ∷ ys) at → Among ks link y ys at
    kids-lead no_kid link y ys k at lo a u l q =
        leads-same (ap (λ n. ahead n at last) (look-end cap small.0 N pcap base P y link a)) refl refl (omega arith)
        (leads-none (led-end N cap bytes (ahead 0 at last) refl))
    kids-lead (kid c t ks) link y ys k at lo a u l q = elim (look-kid cap small.0 N pcap base P y link lo c t ks a) [
      | aside n o ↦
          leads-same refl (apart-met b y ys q.2 c t ks u.0 n) (apart-near b y ys q.2 c t ks u.0 n) (omega arith)
          (kids-lead ks link y ys k at (suc c) o u.2 l q)
      | there next e saw h s o ↦
          leads-same (ap (λ n. ahead n at last) e) refl refl (omega arith)
          (child-leads c t ks next y ys k at saw o.sound u q (kids-lead ks next y ys k at (suc c) o u.2 l q)
          (tree-leads t ys (suc k) (at + 1) h s u.1 (omega arith) q.3))
    ]
