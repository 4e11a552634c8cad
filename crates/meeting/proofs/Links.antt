-- Laws of chains: step by step, one chain after another, and by the pages that lie in the tables.
use Prim.Native.Nat.{ℕ, zero, suc, ◌+◌, ◌-◌, ◌<◌, ◌≤◌}
use native.Mathlib.Omega.{arith}
use mathlib.Core.Path.{◌≡◌, refl, sym, ap, ◌∙◌}
use mathlib.Core.Bool.{Bool, true, false, cond}
use mathlib.Core.Logic.{◌≢◌}
use mathlib.Core.List.{List, [], ◌∷◌, ◌++◌, append_assoc}
use lib.Dec.{ltb, eqb}
use lib.ListN.{get_or}
use borrow.Author.Tests.{ne_eqb, lt-ltb, le-ltb}
use Rattle.meeting.specs.declared.Chain.{Chain}
use Rattle.meeting.specs.Meets.{Meets, met, broken, after, and_then, chain_of, chains_of}

-- ---- one after another
pub after_none : (m : Meets) → after [] m ≡ m
after_none (met ps k) = refl
after_none broken = refl

pub after-after : (ps qs : List ℕ) (m : Meets) → after ps (after qs m) ≡ after (ps ++ qs) m
after-after ps qs (met rs k) = ap (λ l. met l k) (sym (append_assoc ps qs rs))
after-after ps qs broken = refl

pub then-after : (ps : List ℕ) (m : Meets) (go : ℕ → Meets) → and_then (after ps m) go ≡ after ps (and_then m go)
then-after ps (met qs k) go = sym (after-after ps qs (go k))
then-after ps broken go = refl

pub then-then : (m : Meets) (go on : ℕ → Meets) → and_then (and_then m go) on ≡ and_then m (λ k. and_then (go k) on)
then-then (met ps k) go on = then-after ps (go k) on
then-then broken go on = refl

pub then_same : (m : Meets) (go on : ℕ → Meets) → ((k : ℕ) → go k ≡ on k) → and_then m go ≡ and_then m on
then_same (met ps k) go on same = ap (after ps) (same k)
then_same broken go on same = refl

pub then-broken : (m : Meets) (go : ℕ → Meets) → ((k : ℕ) → go k ≡ broken) → and_then m go ≡ broken
then-broken (met ps k) go same = ap (after ps) (same k)
then-broken broken go same = refl

-- none more may be met
abbrev pub less : Meets → Meets
less (met ps zero) = broken
less (met ps (suc k)) = met ps k
less broken = broken

less-after : (ps : List ℕ) (m : Meets) → less (after ps m) ≡ after ps (less m)
less-after ps (met qs zero) = refl
less-after ps (met qs (suc k)) = refl
less-after ps broken = refl

module _ (pages : List ℕ) (cap : ℕ) where
  -- ---- a chain
  abbrev next : ℕ → ℕ → ℕ
  next base link = get_or pages (base + (link - 1)) 0

  pub chain-ended : (base f : ℕ) → chain_of pages cap base 0 f ≡ met [] f
  unfolding chain_of
  chain-ended base zero = refl
  chain-ended base (suc f) = refl

  pub chain-spent : (base link : ℕ) → link ≢ 0 → chain_of pages cap base link 0 ≡ broken
  unfolding chain_of
  chain-spent base link some = rw (ne_eqb link 0 some)

  pub chain-outside : (base link f : ℕ) → cap < link → chain_of pages cap base link f ≡ broken
  unfolding chain_of
  chain-outside base link zero h = rw (ne_eqb link 0 (omega arith))
  chain-outside base link (suc f) h = rw (ne_eqb link 0 (omega arith), lt-ltb cap link h)

  pub chain_more : (base link f : ℕ) → link ≢ 0 → link ≤ cap
      → chain_of pages cap base link (suc f) ≡ after ((link - 1) ∷ []) (chain_of pages cap base (next base link) f)
  unfolding chain_of
  chain_more base link f some h = rw (ne_eqb link 0 some, le-ltb cap link h)

  -- with one page less to meet
  pub chain-less : (f base link : ℕ) → chain_of pages cap base link f ≡ less (chain_of pages cap base link (suc f))
  unfolding chain_of
  chain-less zero base link = go (eqb link 0) (ltb cap link) (eqb (next base link) 0)
    where
      go : (q t u : Bool)
          → cond q (met [] 0) broken ≡ less (cond q (met [] 1) (cond t broken (after ((link - 1) ∷ []) (cond u (met [] 0) broken))))
      go true t u = refl
      go false true u = refl
      go false false true = refl
      go false false false = refl
  chain-less (suc f) base link = go (eqb link 0) (ltb cap link) (chain-less f base (next base link))
    where
      go : (q t : Bool) → chain_of pages cap base (next base link) f ≡ less (chain_of pages cap base (next base link) (suc f))
          → cond q (met [] (suc f)) (cond t broken (after ((link - 1) ∷ []) (chain_of pages cap base (next base link) f)))
          ≡ less (cond q (met [] (suc (suc f))) (cond t broken (after ((link - 1) ∷ []) (chain_of pages cap base (next base link) (suc f)))))
      go true t e = refl
      go false true e = refl
      go false false e =
          ap (after ((link - 1) ∷ [])) e ∙ sym (less-after ((link - 1) ∷ []) (chain_of pages cap base (next base link) (suc f)))

  -- ---- several
  pub chains-none : (total : ℕ) → chains_of pages cap total [] ≡ met [] total
  unfolding chains_of
  chains-none total = refl

  pub chains-append : (cs ds : List Chain) (total : ℕ) → chains_of pages cap total (cs ++ ds) ≡ and_then (chains_of pages cap total cs) (λ k. chains_of pages cap k ds)
  unfolding chains_of
  chains-append [] ds total = sym (after_none (chains_of pages cap total ds))
  chains-append (c ∷ cs) ds total =
      let m : Meets = chain_of pages cap c.base c.link total in
      then_same m (λ k. chains_of pages cap k (cs ++ ds)) (λ k. and_then (chains_of pages cap k cs) (λ j. chains_of pages cap j ds)) (λ k. chains-append cs ds k)
      ∙ sym (then-then m (λ k. chains_of pages cap k cs) (λ j. chains_of pages cap j ds))
