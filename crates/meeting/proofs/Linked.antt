-- The chains that the code makes are those of the model.
use Prim.Native.Nat.{ℕ, zero, suc, ◌+◌, ◌*◌, ◌≤◌, ◌<◌}
use native.Mathlib.Omega.{arith}
use native.Mathlib.Nat.{mul-zero, add-mul}
use mathlib.Core.Path.{◌≡◌, refl, sym, ap, ap₂, subst, ◌∙◌}
use mathlib.Core.List.{List, [], ◌∷◌, map}
use lib.ListN.{length, get_or, take}
use Rattle.meaning.specs.Lists.{from}
use Rattle.layout.specs.Pages.{next_at}
use Rattle.meeting.specs.declared.Chain.{Chain}
use Rattle.meeting.specs.declared.Chains.{Chains}
use Rattle.meeting.specs.Meets.{chain}
use Rattle.meeting.specs.Mets.{Inside}
use Rattle.meeting.specs.Chains.{base_of, Linked}

pub linked-from : (first base step : ℕ) {links : List ℕ} {n : ℕ} {r : Chains} → first ≡ base → Linked (base_of first step) links n r → Linked (base_of base step) links n r
linked-from first base step {links} {n} {r} e l = subst (λ b. Linked (base_of b step) links n r) e l

-- ---- of one block
one-base : (base n : ℕ) (cs : List Chain) (links : List ℕ) → n ≤ length cs → n ≤ length links
    → ((i : ℕ) → i < n → get_or cs i (chain 0 0) ≡ chain base (get_or links i 0)) → take n cs ≡ map (chain base) (take n links)
one-base base zero cs links l k e = refl
one-base base (suc n) [] links l k e = absurd (omega arith)
one-base base (suc n) (c ∷ cs) [] l k e = absurd (omega arith)
one-base base (suc n) (c ∷ cs) (x ∷ links) l k e =
    ap₂ {C = List Chain} (λ d ds. d ∷ ds) (e 0 (omega arith)) (one-base base n cs links (omega arith) (omega arith) (λ i h. e (suc i) (omega arith)))

module _ (base : ℕ) {links : List ℕ} {n : ℕ} {r : Chains} (linked : Linked (base_of base 0) links n r) (few : n ≤ 16) where
  same_base : (i : ℕ) → i < n → get_or r.each i (chain 0 0) ≡ chain base (get_or links i 0)
  same_base i l =
      let here : base_of base 0 i ≡ base = omega (arith, mul-zero i) in
      linked.each i l ∙ ap (λ b. chain b (get_or links i 0)) here

  pub linked-in : n ≤ length links → take r.n r.each ≡ map (chain base) (take n links)
  linked-in there =
      ap (λ k. take k r.each) linked.count ∙ one-base base n r.each links (omega (arith, linked.long)) there same_base

  pub inside-in : (cap long : ℕ) → base + cap ≤ long → Inside cap long r.each r.n
  inside-in cap long fits = record {
    all = linked.long;
    few = omega (arith, linked.count);
    each = λ j l. rw (same_base j (omega (arith, linked.count))) fits;
  }

-- ---- one of each block
firsts-of : (f : ℕ → Chain) (n s : ℕ) (cs : List Chain) → n ≤ length cs → ((i : ℕ) → i < n → get_or cs i (chain 0 0) ≡ f (s + i)) → take n cs ≡ map f (from s n)
unfolding from
firsts-of f zero s cs l e = refl
firsts-of f (suc n) s [] l e = absurd (omega arith)
firsts-of f (suc n) s (c ∷ cs) l e =
    let here : s + 0 ≡ s = omega arith in
    ap₂ {C = List Chain} (λ d ds. d ∷ ds) (e 0 (omega arith) ∙ ap f here)
    (firsts-of f n (suc s) cs (omega arith) (λ i h. let on : s + suc i ≡ suc s + i = omega arith in e (suc i) (omega arith) ∙ ap f on))

module _ (cap : ℕ) {links : List ℕ} {n : ℕ} {r : Chains} (linked : Linked (base_of (next_at cap 0) cap) links n r) (few : n ≤ 16) where
  own-base : (i : ℕ) → i < n → get_or r.each i (chain 0 0) ≡ chain (next_at cap i) (get_or links i 0)
  own-base i l =
      let here : next_at cap 0 + i * cap ≡ next_at cap i = sym (add-mul 2 i cap) in
      linked.each i l ∙ ap (λ b. chain b (get_or links i 0)) here

  pub linked-each : (leaf : ℕ → ℕ) → ((i : ℕ) → i < n → get_or links i 0 ≡ leaf i) → take r.n r.each ≡ map (λ i. chain (next_at cap i) (leaf i)) (from 0 n)
  linked-each leaf same =
      ap (λ k. take k r.each) linked.count
      ∙ firsts-of (λ i. chain (next_at cap i) (leaf i)) n 0 r.each (omega (arith, linked.long))
      (λ i l. let at : i ≡ 0 + i = omega arith in own-base i l ∙ ap (chain (next_at cap i)) (same i l) ∙ ap (λ k. chain (next_at cap k) (leaf k)) at)

  pub inside-each : (long : ℕ) → ((i : ℕ) → i < n → next_at cap i + cap ≤ long) → Inside cap long r.each r.n
  inside-each long fits = record {
    all = linked.long;
    few = omega (arith, linked.count);
    each = λ j l. rw (own-base j (omega (arith, linked.count))) (fits j (omega (arith, linked.count)));
  }
