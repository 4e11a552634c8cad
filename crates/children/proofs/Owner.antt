-- The node that a word of the node table belongs to: by its chain word, its state or one of its heads.
use Prim.Native.Nat.{ℕ, zero, suc, ◌+◌, ◌-◌, ◌/◌, ◌≤◌, ◌<◌}
use native.Mathlib.Decide.{ℕ_discrete}
use native.Mathlib.Omega.{arith}
use mathlib.Core.Path.{◌≡◌, refl}
use mathlib.Core.Bool.{Bool, true, false, cond}
use lib.Dec.{ltb}
use borrow.Author.Tests.{ltb-true, ltb-false, lt-ltb, le-ltb}
use Rattle.layout.specs.Nodes.{chain_at, state_at, head_at, node_words, heads_at}
use Rattle.children.specs.Heap.{hit, node_claims}
use Rattle.children.specs.Phys.{no_kids}
use Rattle.children.proofs.Frame.{hit_same, hit_other}
use Rattle.children.proofs.Claims.{among, among-out, heads-claim}

-- the node of cap nodes that a word belongs to; cap for a word behind them
unfoldable pub owner : ℕ → ℕ → ℕ
owner cap a = cond (ltb a cap) a (cond (ltb a (heads_at cap)) (a - cap) (cond (ltb a (node_words cap)) ((a - heads_at cap) / 8) cap))

among_in : (k n a : ℕ) → k ≤ a → a < k + n → among k n a ≡ 1
unfolding among
among_in k zero a l m = absurd (omega arith)
among_in k (suc n) a l m = go (λ p q. among_in (suc k) n a p q) (ℕ_discrete a k)
  where
    go : (suc k ≤ a → a < suc k + n → among (suc k) n a ≡ 1) → Dec (a ≡ k) → hit k a + among (suc k) n a ≡ 1
    go more (yes e) = omega (arith, hit_same {a = a} {b = k} e, among-out (suc k) n a (λ q. absurd (omega arith)))
    go more (no e) = omega (arith, hit_other {a = a} {b = k} e, more (omega arith) (omega arith))

-- each word of a node belongs to it, and no other word
module _ (cap a n : ℕ) (below : n < cap) where
  abbrev pub Owned : ℕ → Type 0
  Owned x = hit (chain_at n) a + hit (state_at cap n) a + node_claims (no_kids cap n) a ≡ hit n x

  in-chain : a < cap → Owned a
  in-chain l =
      omega (arith, hit_other {a = a} {b = cap + n} (λ e. omega arith), heads-claim cap n (λ g. 0) a, among-out (head_at cap n 0) 8 a (λ q. absurd (omega arith)))

  in-state : cap ≤ a → a < heads_at cap → Owned (a - cap)
  in-state l m = go (ℕ_discrete (a - cap) n)
    where
      others : hit (chain_at n) a + node_claims (no_kids cap n) a ≡ 0
      others = omega (arith, hit_other {a = a} {b = n} (λ e. omega arith), heads-claim cap n (λ g. 0) a, among-out (head_at cap n 0) 8 a (λ q. absurd (omega arith)))

      go : Dec (a - cap ≡ n) → Owned (a - cap)
      go (yes e) = omega (arith, others, hit_same {a = a - cap} {b = n} e, hit_same {a = a} {b = cap + n} (omega arith))
      go (no e) = omega (arith, others, hit_other {a = a - cap} {b = n} e, hit_other {a = a} {b = cap + n} (λ q. e (omega arith)))

  not_low : heads_at cap ≤ a → hit (chain_at n) a + hit (state_at cap n) a ≡ 0
  not_low l = omega (arith, hit_other {a = a} {b = n} (λ e. omega arith), hit_other {a = a} {b = cap + n} (λ e. omega arith))

  in_head : heads_at cap ≤ a → Owned ((a - heads_at cap) / 8)
  in_head l = go (ℕ_discrete ((a - heads_at cap) / 8) n)
    where
      go : Dec ((a - heads_at cap) / 8 ≡ n) → Owned ((a - heads_at cap) / 8)
      go (yes e) =
          omega (arith, not_low l, heads-claim cap n (λ g. 0) a, among_in (head_at cap n 0) 8 a (omega arith) (omega arith), hit_same {a = (a - heads_at cap) / 8} {b = n} e)
      go (no e) =
          omega (
            arith,
            not_low l,
            heads-claim cap n (λ g. 0) a,
            hit_other {a = (a - heads_at cap) / 8} {b = n} e,
            among-out (head_at cap n 0) 8 a (λ q. not-below (λ r. e (omega arith))),
          )
        where
          not-below : (a < head_at cap n 0 + 8 → ⊥) → head_at cap n 0 + 8 ≤ a
          not-below h = omega (arith, h)

  in-none : node_words cap ≤ a → Owned cap
  in-none l =
      omega (arith, not_low (omega arith), heads-claim cap n (λ g. 0) a, among-out (head_at cap n 0) 8 a (λ q. omega arith), hit_other {a = cap} {b = n} (λ e. omega arith))

  pub owned : Owned (owner cap a)
  unfolding owner
  owned = go (ltb a cap) refl (ltb a (heads_at cap)) refl (ltb a (node_words cap)) refl
    where
      go : (p : Bool) → ltb a cap ≡ p → (q : Bool) → ltb a (heads_at cap) ≡ q → (r : Bool) → ltb a (node_words cap) ≡ r
          → Owned (cond p a (cond q (a - cap) (cond r ((a - heads_at cap) / 8) cap)))
      go true e q f r g = in-chain (ltb-true a cap e)
      go false e true f r g = in-state (ltb-false a cap e) (ltb-true a (heads_at cap) f)
      go false e false f true g = in_head (ltb-false a (heads_at cap) f)
      go false e false f false g = in-none (ltb-false a (node_words cap) g)

-- as the state of node x does
pub owner-state : (cap x : ℕ) → x < cap → owner cap (state_at cap x) ≡ x
unfolding owner
owner-state cap x l = rw (le-ltb (cap + x) cap (omega arith), lt-ltb (cap + x) (heads_at cap) (omega arith)) (omega arith)
