-- Leaves before others, and budgets that are drawn on.
use Prim.Native.Nat.{ℕ, ◌+◌, ◌-◌, ◌≤◌, ◌<◌}
use native.Mathlib.Omega.{arith}
use native.Mathlib.Nat.{sub-zero}
use mathlib.Core.Path.{◌≡◌, refl, sym, ap, ◌∙◌}
use mathlib.Core.Bool.{Bool, true, false, cond}
use mathlib.Core.List.{List, [], ◌++◌, append_assoc}
use lib.Dec.{ltb}
use borrow.Author.Tests.{ltb-true, ltb-false, lt-ltb, le-ltb}
use Rattle.walk.specs.Leaves.{Leaves, leaves, broken, before, spend}

-- ---- leaves before others
pub before-none : (x : Leaves) → before [] x ≡ x
before-none (leaves ls n) = refl
before-none broken = refl

pub before-both : (ks ls : List ℕ) (x : Leaves) → before ks (before ls x) ≡ before (ks ++ ls) x
before-both ks ls (leaves ms n) = ap (λ xs. leaves xs n) (sym (append_assoc ks ls ms))
before-both ks ls broken = refl

-- ---- a budget of n, of which d are drawn
module _ (n d : ℕ) where
  pub spend-paid : (go : ℕ → Leaves) → d ≤ n → spend n d go ≡ go (n - d)
  spend-paid go l = rw (le-ltb n d l)

  pub spend-short : (go : ℕ → Leaves) → n < d → spend n d go ≡ broken
  spend-short go l = rw (lt-ltb n d l)

  pub spend-same : (go go' : ℕ → Leaves) → ((k : ℕ) → go k ≡ go' k) → spend n d go ≡ spend n d go'
  spend-same go go' h = ap (λ x. cond (ltb n d) broken x) (h (n - d))

  pub spend-broken : spend n d (λ k. broken) ≡ broken
  spend-broken = stays (ltb n d)
    where
      stays : (t : Bool) → cond t broken broken ≡ broken
      stays true = refl
      stays false = refl

  -- behind leaves or ahead of them
  pub spend-before : (ls : List ℕ) (go : ℕ → Leaves) → before ls (spend n d go) ≡ spend n d (λ k. before ls (go k))
  spend-before ls go = by (ltb n d)
    where
      by : (t : Bool) → before ls (cond t broken (go (n - d))) ≡ cond t broken (before ls (go (n - d)))
      by true = refl
      by false = refl

pub spend-none : (n : ℕ) (go : ℕ → Leaves) → spend n 0 go ≡ go n
spend-none n go = spend-paid n 0 go (omega arith) ∙ ap go (sub-zero n)

-- in two parts
pub spend-both : (n d e : ℕ) (go : ℕ → Leaves) → spend n d (λ k. spend k e go) ≡ spend n (d + e) go
spend-both n d e go = by (ltb n d) refl (ltb (n - d) e) refl
  where
    by : (s : Bool) → ltb n d ≡ s → (t : Bool) → ltb (n - d) e ≡ t
        → cond s broken (cond t broken (go (n - d - e))) ≡ spend n (d + e) go
    by true s t u = sym (spend-short n (d + e) go (omega (arith, ltb-true n d s)))
    by false s true u = sym (spend-short n (d + e) go (omega (arith, ltb-true (n - d) e u, ltb-false n d s)))
    by false s false u =
        let less : n - d - e ≡ n - (d + e) = omega arith in
        ap go less ∙ sym (spend-paid n (d + e) go (omega (arith, ltb-false n d s, ltb-false (n - d) e u)))

pub spend-swap : (n d e : ℕ) (go : ℕ → Leaves) → spend n d (λ k. spend k e go) ≡ spend n e (λ k. spend k d go)
spend-swap n d e go =
    let sum : d + e ≡ e + d = omega arith in
    spend-both n d e go ∙ ap (λ s. spend n s go) sum ∙ sym (spend-both n e d go)
