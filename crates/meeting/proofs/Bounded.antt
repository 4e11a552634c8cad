-- A chain that ends has no page twice, for each page leads to one other. So it has no more pages than the capacity, and a budget of as many
-- is as good as any greater one.
use Prim.Native.Nat.{ℕ, zero, suc, ◌+◌, ◌-◌, ◌*◌, ◌≤◌, ◌<◌}
use native.Mathlib.Nat.{suc-mul}
use native.Mathlib.Omega.{arith}
use mathlib.Core.Path.{◌≡◌, refl, sym, ap, ◌∙◌}
use mathlib.Core.Bool.{Bool, true, false, false≢true, not, cond, ◌&&◌, ◌||◌}
use mathlib.Core.List.{List, [], ◌∷◌, ◌++◌}
use mathlib.Core.Logic.{◌≢◌}
use lib.Dec.{ltb, eqb}
use lib.ListN.{length, get_or}
use borrow.Author.Tests.{eqb-true, eqb-false, ltb-false, lt-ltb}
use Rattle.meaning.specs.Lists.{all, any, count}
use Rattle.meaning.proofs.Lists.{and_intro, count-upto}
use Rattle.trie_laws.proofs.Lists.{holds, fails, truth, any_none}
use Rattle.trie_laws.proofs.Distinct.{distinct-once, distinct-count}
use Rattle.meeting.specs.declared.Chain.{Chain}
use Rattle.meeting.specs.Meets.{Meets, met, broken, after, and_then, with_left, chain_of, chains_of}
use Rattle.meeting.proofs.Links.{chain-ended, chain_more}

is_met : Meets → Bool
is_met (met ps k) = true
is_met broken = false

pages_of : Meets → List ℕ
pages_of (met ps k) = ps
pages_of broken = []

left_of : Meets → ℕ
left_of (met ps k) = k
left_of broken = 0

not-both : (ps : List ℕ) (k : ℕ) → broken ≡ met ps k → ⊥
unfolding is_met
not-both ps k e = false≢true (ap is_met e)

-- pages met before others
after-met : (ps qs : List ℕ) (k : ℕ) (m : Meets) → after ps m ≡ met qs k → (rs : List ℕ) × (m ≡ met rs k) × (qs ≡ ps ++ rs)
unfolding is_met pages_of left_of
after-met ps qs k (met rs j) e = (rs, ap (met rs) (ap left_of e), sym (ap pages_of e))
after-met ps qs k broken e = absurd (false≢true (ap is_met e))

module _ (pages : List ℕ) (cap base : ℕ) where
  abbrev next : ℕ → ℕ
  next link = get_or pages (base + (link - 1)) 0

  -- a chain that ends: at once, or behind its first page
  record Behind (link f : ℕ) (ps : List ℕ) (k : ℕ) : Type 0 where
    some : 0 < link
    inside : link ≤ cap
    fuel : ℕ
    more : f ≡ suc fuel
    rest : List ℕ
    whole : ps ≡ (link - 1) ∷ rest
    on : chain_of pages cap base (next link) fuel ≡ met rest k

  data Ends (link f : ℕ) (ps : List ℕ) (k : ℕ) : Type 0 where
    at_once : link ≡ 0 → ps ≡ [] → k ≡ f → Ends link f ps k
    later : Behind link f ps k → Ends link f ps k

  ends : (f link : ℕ) (ps : List ℕ) (k : ℕ) → chain_of pages cap base link f ≡ met ps k → Ends link f ps k
  unfolding chain_of is_met pages_of left_of
  ends zero link ps k = go (eqb link 0) refl
    where
      go : (q : Bool) → eqb link 0 ≡ q → cond q (met [] 0) broken ≡ met ps k → Ends link 0 ps k
      go true z e = at_once (eqb-true link 0 z) (sym (ap pages_of e)) (sym (ap left_of e))
      go false z e = absurd (false≢true (ap is_met e))
  ends (suc f) link ps k = go (eqb link 0) refl
    where
      there : (q : Bool) → ltb cap link ≡ q → 0 < link → cond q broken (after ((link - 1) ∷ []) (chain_of pages cap base (next link) f)) ≡ met ps k → Ends link (suc f) ps k
      there true z s e = absurd (false≢true (ap is_met e))
      there false z s e =
          let r = after-met ((link - 1) ∷ []) ps k (chain_of pages cap base (next link) f) e in
          later record { some = s; inside = ltb-false cap link z; fuel = f; more = refl; rest = r.0; whole = r.2; on = r.1 }

      go : (q : Bool) → eqb link 0 ≡ q → cond q (met [] (suc f)) (cond (ltb cap link) broken (after ((link - 1) ∷ []) (chain_of pages cap base (next link) f))) ≡ met ps k
          → Ends link (suc f) ps k
      go true z e = at_once (eqb-true link 0 z) (sym (ap pages_of e)) (sym (ap left_of e))
      go false z e = there (ltb cap link) refl (some (eqb-false link 0 z)) e
        where
          some : (link ≡ 0 → ⊥) → 0 < link
          some n = omega arith

  -- two ends of one chain are one
  same : (f g link : ℕ) (ps qs : List ℕ) (k j : ℕ) → chain_of pages cap base link f ≡ met ps k → chain_of pages cap base link g ≡ met qs j → ps ≡ qs
  same zero g link ps qs k j e h = elim (ends zero link ps k e) [
    | at_once z w v ↦ elim (ends g link qs j h) [
      | at_once y u t ↦ w ∙ sym u
      | later r ↦ absurd (omega (arith, r.some))
    ]
    | later r ↦ absurd (omega (arith, r.more))
  ]
  same (suc f) g link ps qs k j e h = elim (ends (suc f) link ps k e) [
    | at_once z w v ↦ elim (ends g link qs j h) [
      | at_once y u t ↦ w ∙ sym u
      | later r ↦ absurd (omega (arith, r.some))
    ]
    | later r ↦ elim (ends g link qs j h) [
      | at_once y u t ↦ absurd (omega (arith, r.some))
      | later o ↦
          let less : r.fuel ≡ f = omega (arith, r.more) in
          r.whole ∙ ap (λ xs. (link - 1) ∷ xs) (same f o.fuel (next link) r.rest o.rest k j (rw less at r.on) o.on) ∙ sym o.whole
    ]
  ]

  -- the chain from a page of a chain on
  record From (p : ℕ) (ps : List ℕ) : Type 0 where
    fuel : ℕ
    rest : List ℕ
    left : ℕ
    on : chain_of pages cap base (p + 1) fuel ≡ met rest left
    part : length rest ≤ length ps

  from-page : (f link : ℕ) (ps : List ℕ) (k : ℕ) → chain_of pages cap base link f ≡ met ps k → (p : ℕ) → any (eqb p) ps ≡ true → From p ps
  unfolding any
  from-page zero link ps k e p a = elim (ends zero link ps k e) [
    | at_once z w v ↦ absurd (false≢true (rw w at a))
    | later r ↦ absurd (omega (arith, r.more))
  ]
  from-page (suc f) link ps k e p a = elim (ends (suc f) link ps k e) [
    | at_once z w v ↦ absurd (false≢true (rw w at a))
    | later r ↦
        go r (λ b. let less : r.fuel ≡ f = omega (arith, r.more) in from-page f (next link) r.rest k (rw less at r.on) p b)
        (eqb p (link - 1)) refl (rw r.whole at a)
  ]
    where
      go : (r : Behind link (suc f) ps k) → (any (eqb p) r.rest ≡ true → From p r.rest) → (q : Bool) → eqb p (link - 1) ≡ q
          → q || any (eqb p) r.rest ≡ true → From p ps
      go r deeper true z b =
          let here : link ≡ p + 1 = omega (arith, eqb-true p (link - 1) z, r.some) in
          record { fuel = suc f; rest = ps; left = k; on = rw here at e; part = omega arith }
      go r deeper false z b =
          let n = deeper b in
          record { fuel = n.fuel; rest = n.rest; left = n.left; on = n.on; part = rw r.whole (omega (arith, n.part)) }

  once : (f link : ℕ) (ps : List ℕ) (k : ℕ) → chain_of pages cap base link f ≡ met ps k → (p : ℕ) → count (eqb p) ps ≤ 1
  unfolding count
  once zero link ps k e p = elim (ends zero link ps k e) [
    | at_once z w v ↦ rw w (omega arith)
    | later r ↦ absurd (omega (arith, r.more))
  ]
  once (suc f) link ps k e p = elim (ends (suc f) link ps k e) [
    | at_once z w v ↦ rw w (omega arith)
    | later r ↦
        let less : r.fuel ≡ f = omega (arith, r.more) in
        rw r.whole (go r (once f (next link) r.rest k (rw less at r.on) p) (eqb p (link - 1)) refl)
  ]
    where
      go : (r : Behind link (suc f) ps k) → count (eqb p) r.rest ≤ 1 → (q : Bool) → eqb p (link - 1) ≡ q → cond q 1 0 + count (eqb p) r.rest ≤ 1
      go r deeper true z = elim (truth (any (eqb p) r.rest)) [
        | holds a ↦
            let less : r.fuel ≡ f = omega (arith, r.more) in
            let n = from-page f (next link) r.rest k (rw less at r.on) p a in
            let here : link ≡ p + 1 = omega (arith, eqb-true p (link - 1) z, r.some) in
            let e2 : n.rest ≡ (link - 1) ∷ r.rest = same n.fuel (suc f) (p + 1) n.rest ps n.left k n.on (rw here at e) ∙ r.whole in
            absurd (omega (arith, n.part, ap length e2))
        | fails a ↦ omega (arith, any_none (eqb p) r.rest a)
      ]
      go r deeper false z = omega (arith, deeper)

  below : (f link : ℕ) (ps : List ℕ) (k : ℕ) → chain_of pages cap base link f ≡ met ps k → all (λ p. ltb p cap) ps ≡ true
  unfolding all
  below zero link ps k e = elim (ends zero link ps k e) [
    | at_once z w v ↦ rw w refl
    | later r ↦ absurd (omega (arith, r.more))
  ]
  below (suc f) link ps k e = elim (ends (suc f) link ps k e) [
    | at_once z w v ↦ rw w refl
    | later r ↦
        let less : r.fuel ≡ f = omega (arith, r.more) in
        rw r.whole (and_intro (ltb (link - 1) cap) (all (λ p. ltb p cap) r.rest) (lt-ltb (link - 1) cap (omega (arith, r.some, r.inside)))
        (below f (next link) r.rest k (rw less at r.on)))
  ]

  pub chain-few : (f link : ℕ) (ps : List ℕ) (k : ℕ) → chain_of pages cap base link f ≡ met ps k → length ps ≤ cap
  chain-few f link ps k e =
      omega (
        arith,
        distinct-once (λ y. false) ps (λ y. omega (arith, once f link ps k e y)),
        distinct-count cap (λ y. false) ps (below f link ps k e),
        count-upto (λ y. not false && any (eqb y) ps) cap,
      )

  ended : (g link : ℕ) (ps : List ℕ) → link ≡ 0 → ps ≡ [] → chain_of pages cap base link g ≡ met ps (g - length ps)
  ended g link ps z w = rw (z, w) (chain-ended pages cap base g ∙ ap (met []) (omega arith))

  positive : (n : ℕ) → 0 < n → n ≢ 0
  positive n l e = omega arith

  -- a chain that ends within one budget ends within every other that is long enough
  pub chain-any : (f g link : ℕ) (ps : List ℕ) (k : ℕ) → chain_of pages cap base link f ≡ met ps k → length ps ≤ g
      → chain_of pages cap base link g ≡ met ps (g - length ps)
  chain-any zero g link ps k e l = elim (ends zero link ps k e) [
    | at_once z w v ↦ ended g link ps z w
    | later r ↦ absurd (omega (arith, r.more))
  ]
  chain-any (suc f) zero link ps k e l = elim (ends (suc f) link ps k e) [
    | at_once z w v ↦ ended zero link ps z w
    | later r ↦ absurd (omega (arith, ap length r.whole))
  ]
  chain-any (suc f) (suc g) link ps k e l = elim (ends (suc f) link ps k e) [
    | at_once z w v ↦ ended (suc g) link ps z w
    | later r ↦
        let less : r.fuel ≡ f = omega (arith, r.more) in
        let short : length r.rest ≤ g = omega (arith, ap length r.whole) in
        chain_more pages cap base link g (positive link r.some) r.inside
        ∙ ap (after ((link - 1) ∷ [])) (chain-any f g (next link) r.rest k (rw less at r.on) short)
        ∙ rw r.whole (ap (met ((link - 1) ∷ r.rest)) (omega arith))
  ]

pub left_after : (n : ℕ) (ps : List ℕ) (m : Meets) → with_left n (after ps m) ≡ after ps (with_left n m)
left_after n ps (met qs k) = refl
left_after n ps broken = refl

module _ (pages : List ℕ) (cap : ℕ) where
  -- several chains, each with a budget of its own
  unfoldable pub each_of : List Chain → Meets
  each_of [] = met [] 0
  each_of (c ∷ cs) = and_then (chain_of pages cap c.base c.link cap) (λ k. each_of cs)

  -- one budget for all of them is as good
  pub chains-each : (cs : List Chain) (total n : ℕ) → length cs * cap ≤ total → with_left n (chains_of pages cap total cs) ≡ with_left n (each_of cs)
  unfolding chains_of each_of
  chains-each [] total n l = refl
  chains-each (c ∷ cs) total n l = go (chain_of pages cap c.base c.link cap) refl (chain_of pages cap c.base c.link total) refl (chains-each cs)
    where
      enough : (k : ℕ) → k ≤ cap → length cs * cap ≤ total - k
      enough k h = omega (arith, suc-mul (length cs) cap)

      go : (m : Meets) → chain_of pages cap c.base c.link cap ≡ m → (o : Meets) → chain_of pages cap c.base c.link total ≡ o
          → ((t j : ℕ) → length cs * cap ≤ t → with_left j (chains_of pages cap t cs) ≡ with_left j (each_of cs))
          → with_left n (and_then o (λ k. chains_of pages cap k cs)) ≡ with_left n (and_then m (λ k. each_of cs))
      go (met ps k) e o f deeper =
          let few : length ps ≤ cap = chain-few pages cap c.base cap c.link ps k e in
          let whole : o ≡ met ps (total - length ps) = sym f ∙ chain-any pages cap c.base cap total c.link ps k e (omega (arith, suc-mul (length cs) cap)) in
          ap (λ z. with_left n (and_then z (λ k. chains_of pages cap k cs))) whole
          ∙ left_after n ps (chains_of pages cap (total - length ps) cs)
          ∙ ap (after ps) (deeper (total - length ps) n (enough (length ps) few))
          ∙ sym (left_after n ps (each_of cs))
      go broken e (met ps k) f deeper =
          let few : length ps ≤ cap = chain-few pages cap c.base total c.link ps k f in
          absurd (not-both ps (cap - length ps) (sym e ∙ chain-any pages cap c.base total cap c.link ps k f few))
      go broken e broken f deeper = refl
