-- What a step from child to child says of the words that it read, and where the words lead.
use Rattle.std.specs.Prelude.{Option, Some, None}
use Prim.Native.Nat.{ℕ, ◌+◌, ◌*◌, ◌-◌, ◌<◌, ◌≤◌}
use native.Mathlib.Omega.{arith}
use mathlib.Core.Path.{◌≡◌, refl, sym, ap}
use mathlib.Core.Bool.{Bool, true, false, cond}
use mathlib.Core.List.{List}
use lib.Dec.{ltb, eqb}
use lib.ListN.{get_or}
use borrow.Author.Tests.{eq-eqb, ne_eqb, lt-ltb, le-ltb, eqb-true, eqb-false, ltb-true, ltb-false}
use Rattle.layout.specs.Nodes.{link_of, byte_of, chain_word, head_at, link_base}
use Rattle.children.specs.declared.order.Frame.{Frame}
use Rattle.children.specs.declared.order.Step.{Step}
use Rattle.children.specs.declared.order.Step.TheVariants.{Chain, Child, Up}
use Rattle.children.specs.Order.{step_along, next_child}
use Rattle.children.proofs.Tests.{refused}

module _ (N : List ℕ) (cap : ℕ) (f : Frame) where
  -- a child x with a byte, followed by a link
  pub record AtChild (x byte next : ℕ) : Type 0 where
    pub at : x + 1 ≡ f.link
    pub inside : x < cap
    pub word : get_or N x 0 ≡ chain_word byte next
    pub least : f.least ≤ byte
    pub most : byte < 32 * f.group + 32

  along-child : (x byte next : ℕ) → (f.link ≡ 0 → ⊥) → step_along N cap f ≡ Some (Child x byte next) → AtChild x byte next
  unfolding step_along
  along-child x byte next some h =
      let y : ℕ = f.link - 1 in
      let v : ℕ = get_or N y 0 in
      let c : ℕ = byte_of v in
      let good : Option Step = Some (Child x byte next) in
      let t1 = refused None good no (ltb cap f.link) _ h in
      let t2 = refused None good no (ltb c f.least) _ t1.1 in
      let t3 = refused None good no (ltb (32 * f.group + 31) c) _ t2.1 in
      let e1 : y ≡ x = node-same t3.1 in
      let e2 : c ≡ byte = byte-same t3.1 in
      let e3 : link_of v ≡ next = link-same t3.1 in
      let e4 : get_or N x 0 ≡ v = ap (λ m. get_or N m 0) (sym e1) in
      record {
        at = omega arith;
        inside = omega (arith, ltb-false cap f.link t1.0);
        word = omega arith;
        least = omega (arith, ltb-false c f.least t2.0);
        most = omega (arith, ltb-false (32 * f.group + 31) c t3.0);
      }
    where
      no : None ≡ Some (Child x byte next) → ⊥
      no e = let z : ◌≡◌ {A = ℕ} 0 1 = cc in omega arith

      node-same : {a c d : ℕ} → Some (Child a c d) ≡ Some (Child x byte next) → a ≡ x
      node-same e = cc

      byte-same : {a c d : ℕ} → Some (Child a c d) ≡ Some (Child x byte next) → c ≡ byte
      byte-same e = cc

      link-same : {a c d : ℕ} → Some (Child a c d) ≡ Some (Child x byte next) → d ≡ next
      link-same e = cc

  pub step-child : (x byte next : ℕ) → next_child N cap f ≡ Some (Child x byte next) → AtChild x byte next
  unfolding next_child
  step-child x byte next h = go (eqb f.link 0) refl (ltb f.group 7) h
    where
      go : (q : Bool) → eqb f.link 0 ≡ q → (r : Bool)
          → cond q (cond r (Some (Chain (get_or N (head_at cap f.node (f.group + 1)) 0))) (Some Up)) (step_along N cap f) ≡ Some (Child x byte next) → AtChild x byte next
      go true e true h = let z : ◌≡◌ {A = ℕ} 0 1 = cc in absurd (omega arith)
      go true e false h = let z : ◌≡◌ {A = ℕ} 0 1 = cc in absurd (omega arith)
      go false e r h = along-child x byte next (eqb-false f.link 0 e) h

  -- a step along a chain leads to a child, or is refused
  along-not : (s : Option Step) → (None ≡ s → ⊥) → ((x byte next : ℕ) → Some (Child x byte next) ≡ s → ⊥) → step_along N cap f ≡ s → ⊥
  unfolding step_along
  along-not s broken other h =
      let t1 = refused None s broken (ltb cap f.link) _ h in
      let t2 = refused None s broken (ltb (byte_of (get_or N (f.link - 1) 0)) f.least) _ t1.1 in
      let t3 = refused None s broken (ltb (32 * f.group + 31) (byte_of (get_or N (f.link - 1) 0))) _ t2.1 in
      other _ _ _ t3.1

  -- the next chain
  pub record AtChain (next : ℕ) : Type 0 where
    pub done : f.link ≡ 0
    pub more : f.group < 7
    pub word : get_or N (head_at cap f.node (f.group + 1)) 0 ≡ next

  pub step-chain : (next : ℕ) → next_child N cap f ≡ Some (Chain next) → AtChain next
  unfolding next_child
  step-chain next h = go (eqb f.link 0) refl (ltb f.group 7) refl h
    where
      no : (x byte l : ℕ) → Some (Child x byte l) ≡ Some (Chain next) → ⊥
      no x byte l e = let z : ◌≡◌ {A = ℕ} 0 1 = cc in omega arith

      broken : None ≡ Some (Chain next) → ⊥
      broken e = let z : ◌≡◌ {A = ℕ} 0 1 = cc in omega arith

      go : (q : Bool) → eqb f.link 0 ≡ q → (r : Bool) → ltb f.group 7 ≡ r
          → cond q (cond r (Some (Chain (get_or N (head_at cap f.node (f.group + 1)) 0))) (Some Up)) (step_along N cap f) ≡ Some (Chain next) → AtChain next
      go true e true l h = record { done = eqb-true f.link 0 e; more = ltb-true f.group 7 l; word = cc }
      go true e false l h = let z : ◌≡◌ {A = ℕ} 0 1 = cc in absurd (omega arith)
      go false e r l h = absurd (along-not (Some (Chain next)) broken no h)

  -- no child is left
  pub record AtEnd : Type 0 where
    pub done : f.link ≡ 0
    pub last : 7 ≤ f.group

  pub step-up : next_child N cap f ≡ Some Up → AtEnd
  unfolding next_child
  step-up h = go (eqb f.link 0) refl (ltb f.group 7) refl h
    where
      no : (x byte l : ℕ) → Some (Child x byte l) ≡ Some Up → ⊥
      no x byte l e = let z : ◌≡◌ {A = ℕ} 0 1 = cc in omega arith

      broken : None ≡ Some Up → ⊥
      broken e = let z : ◌≡◌ {A = ℕ} 0 1 = cc in omega arith

      go : (q : Bool) → eqb f.link 0 ≡ q → (r : Bool) → ltb f.group 7 ≡ r
          → cond q (cond r (Some (Chain (get_or N (head_at cap f.node (f.group + 1)) 0))) (Some Up)) (step_along N cap f) ≡ Some Up → AtEnd
      go true e true l h = let z : ◌≡◌ {A = ℕ} 0 1 = cc in absurd (omega arith)
      go true e false l h = record { done = eqb-true f.link 0 e; last = ltb-false f.group 7 l }
      go false e r l h = absurd (along-not (Some Up) broken no h)

  -- to node x of byte c, which is followed by l
  pub to-child : (x c l : ℕ) → f.link ≡ x + 1 → x < cap → get_or N x 0 ≡ chain_word c l → l < link_base → f.least ≤ c → c < 32 * f.group + 32 → next_child N cap f ≡ Some (Child x c l)
  unfolding next_child step_along
  to-child x c l e i h m lo hi =
      let at : f.link - 1 ≡ x = omega arith in
      let byte : byte_of (chain_word c l) ≡ c = omega arith in
      let next : link_of (chain_word c l) ≡ l = omega arith in
      rw (
        ne_eqb f.link 0 (omega arith),
        le-ltb cap f.link (omega arith),
        at,
        h,
        byte,
        next,
        le-ltb c f.least lo,
        le-ltb (32 * f.group + 31) c (omega arith),
      )
      refl

  -- to the next chain, or up
  pub to-chain : f.link ≡ 0 → f.group < 7 → next_child N cap f ≡ Some (Chain (get_or N (head_at cap f.node (f.group + 1)) 0))
  unfolding next_child
  to-chain e l = rw (eq-eqb f.link 0 e, lt-ltb f.group 7 l)

  pub to-up : f.link ≡ 0 → 7 ≤ f.group → next_child N cap f ≡ Some Up
  unfolding next_child
  to-up e l = rw (eq-eqb f.link 0 e, le-ltb f.group 7 l)
