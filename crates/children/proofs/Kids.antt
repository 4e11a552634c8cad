-- The links to the children of a node, chain by chain, and the heads that hold them.
use Prim.Native.Nat.{ℕ, zero, suc, ◌+◌, ◌*◌, ◌/◌, ◌<◌, ◌≤◌}
use native.Mathlib.Omega.{arith}
use mathlib.Core.Path.{◌≡◌, refl, ap₂, ◌∙◌}
use mathlib.Core.Bool.{Bool, true, false, cond}
use mathlib.Core.List.{List}
use borrow.Author.Tests.{eq-eqb, ne_eqb, eqb-true, eqb-false}
use lib.Dec.{eqb}
use lib.ListN.{get_or}
use Rattle.layout.specs.Nodes.{head_at}
use Rattle.children.specs.Heap.{Holds, node, ◌⊕◌}
use Rattle.children.specs.Phys.{Phys, Kids, leaf_p, inner_p, no_kid, kid, root, first_in, heads_from, Sound, SoundK}
use Rattle.children.proofs.Frame.{Same}

-- ---- the first child in a chain
pub first-here : (b : ℕ) (t : Phys) (ks : Kids) (g : ℕ) → b / 32 ≡ g → first_in (kid b t ks) g ≡ root t + 1
first-here b t ks g e = rw (eq-eqb (b / 32) g e)

pub first-other : (b : ℕ) (t : Phys) (ks : Kids) (g : ℕ) → (b / 32 ≡ g → ⊥) → first_in (kid b t ks) g ≡ first_in ks g
first-other b t ks g e = rw (ne_eqb (b / 32) g e)

module _ (cap pcap : ℕ) where
  pub root_below : (t : Phys) → Sound cap pcap t → root t < cap
  root_below (leaf_p n ps) h = h.0
  root_below (inner_p n ks) h = h.0

  pub lower : (ks : Kids) (lo hi : ℕ) → lo ≤ hi → SoundK cap pcap ks hi → SoundK cap pcap ks lo
  lower no_kid lo hi l h = tt
  lower (kid b t ks) lo hi l h = (omega (arith, h.0), h.1, h.2, h.3)

  pub link-below : (ks : Kids) (lo g : ℕ) → SoundK cap pcap ks lo → first_in ks g ≤ cap
  link-below no_kid lo g h = omega arith
  link-below (kid b t ks) lo g h = go (eqb (b / 32) g) (link-below ks (suc b) g h.3)
    where
      go : (q : Bool) → first_in ks g ≤ cap → cond q (root t + 1) (first_in ks g) ≤ cap
      go true l = omega (arith, root_below t h.2)
      go false l = l

  -- no child in a chain below the bytes
  pub none_below : (ks : Kids) (lo g : ℕ) → SoundK cap pcap ks lo → 32 * g + 32 ≤ lo → first_in ks g ≡ 0
  none_below no_kid lo g h l = refl
  none_below (kid b t ks) lo g h l =
      first-other b t ks g (λ e. omega (arith, h.0)) ∙ none_below ks (suc b) g h.3 (omega (arith, h.0))

  -- bytes from chain g on, and none in it
  pub past-chain : (ks : Kids) (lo g : ℕ) → SoundK cap pcap ks lo → 32 * g ≤ lo → first_in ks g ≡ 0 → SoundK cap pcap ks (32 * g + 32)
  past-chain no_kid lo g h l e = tt
  past-chain (kid b t ks) lo g h l e = go (eqb (b / 32) g) refl e
    where
      go : (q : Bool) → eqb (b / 32) g ≡ q → cond q (root t + 1) (first_in ks g) ≡ 0 → SoundK cap pcap (kid b t ks) (32 * g + 32)
      go true d z = absurd (omega arith)
      go false d z = let n : b / 32 ≡ g → ⊥ = eqb-false (b / 32) g d in (more n, h.1, h.2, h.3)
        where
          more : (b / 32 ≡ g → ⊥) → 32 * g + 32 ≤ b
          more n = omega (arith, h.0, n)

-- ---- heads
module _ (cap n : ℕ) where
  pub heads-like : (L M : ℕ → ℕ) (k g : ℕ) → ((h : ℕ) → g ≤ h → h < g + k → L h ≡ M h) → heads_from cap n g k L ≡ heads_from cap n g k M
  unfolding heads_from
  heads-like L M zero g e = refl
  heads-like L M (suc k) g e =
      ap₂ (λ v xs. node (head_at cap n g) v ⊕ xs) (e g (omega arith) (omega arith)) (heads-like L M k (suc g) (λ h l m. e h (omega arith) (omega arith)))

  -- one of them, and the others
  pub heads-split : (L : ℕ → ℕ) (i j g k h : ℕ) → k ≡ i + suc j → h ≡ g + i → Same (heads_from cap n g k L) (node (head_at cap n h) (L h) ⊕ heads_from cap n g i L ⊕ heads_from cap n (suc h) j L)
  unfolding heads_from
  heads-split L zero j g k h e f =
      let p : k ≡ suc j = omega arith in
      let q : h ≡ g = omega arith in
      rw (p, q)
      (record {
        to = record { holds = λ N P z. (z.0, (tt, z.1)); nodes = λ a. omega arith; pages = λ a. omega arith };
        back = record { holds = λ N P z. (z.0, z.1.1); nodes = λ a. omega arith; pages = λ a. omega arith };
      })
  heads-split L (suc i) j g zero h e f = absurd (omega arith)
  heads-split L (suc i) j g (suc k) h e f =
      let r = heads-split L i j (suc g) k h (omega arith) (omega arith) in
      record {
        to = record {
          holds = λ N P z. let o = r.to.holds N P z.1 in (o.0, ((z.0, o.1.0), o.1.1));
          nodes = λ a. omega (arith, r.to.nodes a);
          pages = λ a. omega (arith, r.to.pages a);
        };
        back = record {
          holds = λ N P z. (z.1.0.0, r.back.holds N P (z.0, (z.1.0.1, z.1.1)));
          nodes = λ a. omega (arith, r.back.nodes a);
          pages = λ a. omega (arith, r.back.pages a);
        };
      }

  -- what the table has in them
  pub head-held : (N P : List ℕ) (L : ℕ → ℕ) (k g h : ℕ) → g ≤ h → h < g + k → Holds (heads_from cap n g k L) N P → get_or N (head_at cap n h) 0 ≡ L h
  unfolding heads_from
  head-held N P L zero g h l m z = absurd (omega arith)
  head-held N P L (suc k) g h l m z = go (λ d. head-held N P L k (suc g) h d (omega arith) z.1) (eqb g h) refl
    where
      more : (g ≡ h → ⊥) → suc g ≤ h
      more d = omega (arith, d)

      go : (suc g ≤ h → get_or N (head_at cap n h) 0 ≡ L h) → (q : Bool) → eqb g h ≡ q → get_or N (head_at cap n h) 0 ≡ L h
      go later true e = rw (← (eqb-true g h e)) z.0
      go later false e = later (more (eqb-false g h e))

  pub held-heads : (N P : List ℕ) (L : ℕ → ℕ) (k g : ℕ) → ((h : ℕ) → g ≤ h → h < g + k → get_or N (head_at cap n h) 0 ≡ L h) → Holds (heads_from cap n g k L) N P
  unfolding heads_from
  held-heads N P L zero g e = tt
  held-heads N P L (suc k) g e = (e g (omega arith) (omega arith), held-heads N P L k (suc g) (λ h l m. e h (omega arith) (omega arith)))
