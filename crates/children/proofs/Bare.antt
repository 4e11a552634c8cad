-- A node without children, as `is_bare` tests it and as it lies in the tables.
use Prim.Native.Nat.{ℕ, ◌+◌, ◌/◌, ◌≤◌, ◌<◌}
use native.Mathlib.Omega.{arith}
use mathlib.Core.Path.{◌≡◌, refl}
use mathlib.Core.Bool.{Bool, true, false}
use mathlib.Core.List.{List}
use borrow.Author.Tests.{eq-eqb, eqb-true}
use lib.Dec.{eqb}
use lib.ListN.{get_or}
use Rattle.meaning.specs.Lists.{all, from, upto}
use Rattle.layout.specs.Nodes.{head_at, heads_at, node_words}
use Rattle.meaning.proofs.Lists.{upto_all}
use Rattle.children.specs.Heap.{Holds}
use Rattle.children.specs.Phys.{Phys, Kids, kid, root, first_in, heads, no_kids, SoundK}
use Rattle.children.specs.Order.{bare}
use Rattle.children.proofs.Kids.{head-held, held-heads}

module _ (N P : List ℕ) (cap x : ℕ) where
  pub bare-holds : bare N cap x ≡ true → Holds (no_kids cap x) N P
  unfolding bare
  bare-holds h =
      held-heads cap x N P (λ g. 0) 8 0 (λ g l m. eqb-true (get_or N (head_at cap x g) 0) 0 (upto_all (λ g. eqb (get_or N (head_at cap x g) 0) 0) 8 h g (omega arith)))

  pub held-bare : Holds (no_kids cap x) N P → bare N cap x ≡ true
  unfolding bare all upto from
  held-bare h =
      let at : (g : ℕ) → g < 8 → eqb (get_or N (head_at cap x g) 0) 0 ≡ true =
      λ g l. eq-eqb (get_or N (head_at cap x g) 0) 0 (head-held cap x N P (λ g. 0) 8 0 g (omega arith) (omega arith) h) in
      rw (
        at 0 (omega arith),
        at 1 (omega arith),
        at 2 (omega arith),
        at 3 (omega arith),
        at 4 (omega arith),
        at 5 (omega arith),
        at 6 (omega arith),
        at 7 (omega arith),
      )
      refl

  -- a node that has children is not bare
  pub not-bare : (pcap b : ℕ) (t : Phys) (ks : Kids) → SoundK cap pcap (kid b t ks) 0 → Holds (heads cap x (first_in (kid b t ks))) N P → bare N cap x ≡ false
  not-bare pcap b t ks s h = go (bare N cap x) refl
    where
      at : get_or N (head_at cap x (b / 32)) 0 ≡ root t + 1
      at = rw (eq-eqb (b / 32) (b / 32) refl) at (head-held cap x N P (first_in (kid b t ks)) 8 0 (b / 32) (omega arith) (omega (arith, s.1)) h)

      go : (q : Bool) → bare N cap x ≡ q → q ≡ false
      go false e = refl
      go true e = absurd (omega (arith, at, head-held cap x N P (λ g. 0) 8 0 (b / 32) (omega arith) (omega (arith, s.1)) (bare-holds e)))

  -- where all heads are 0
  pub zeros-bare : x < cap → ((a : ℕ) → heads_at cap ≤ a → a < node_words cap → get_or N a 0 ≡ 0) → Holds (no_kids cap x) N P
  zeros-bare h z = held-heads cap x N P (λ g. 0) 8 0 (λ g l m. z (head_at cap x g) (omega arith) (omega arith))
