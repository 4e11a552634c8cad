-- Steps in a node: where they lead, and that they stay in the table.
use Rattle.std.specs.Prelude.{Option, Some, None}
use Prim.Native.Nat.{ℕ, ◌<◌}
use mathlib.Core.Path.{◌≡◌, refl}
use mathlib.Core.Bool.{Bool, true, false, cond}
use mathlib.Core.List.{List}
use native.Mathlib.Omega.{arith}
use Rattle.meaning.specs.Sketch.{packable}
use Rattle.children.specs.declared.order.Frame.{Frame}
use Rattle.children.specs.declared.order.Step.{Step}
use Rattle.children.specs.declared.order.Step.TheVariants.{Chain, Child, Up}
use Rattle.children.specs.Order.{next_child}
use Rattle.children.proofs.Ordered as order
use Rattle.node_check.specs.Frame.{packing, step_in}

module _ (N : List ℕ) (cap b n k : ℕ) (f : Frame) where
  -- back: the child, and that its byte is one that packing can give
  pub packed-child : (x byte link : ℕ) → step_in N cap b n k f ≡ Some (Child x byte link) → (next_child N cap f ≡ Some (Child x byte link)) × (packable b n k byte ≡ true)
  unfolding step_in
  packed-child x byte link h = go (next_child N cap f) refl h
    where
      here : (y c l : ℕ) (q : Bool) → packable b n k c ≡ q → cond q (Some (Child y c l)) None ≡ Some (Child x byte link) → (Some (Child y c l) ≡ Some (Child x byte link)) × (packable b n k byte ≡ true)
      here y c l true e h = let z : c ≡ byte = cc in (h, rw (← z) e)
      here y c l false e h = let z : ◌≡◌ {A = ℕ} 0 1 = cc in absurd (omega arith)

      go : (s : Option Step) → next_child N cap f ≡ s → packing b n k s ≡ Some (Child x byte link) → (next_child N cap f ≡ Some (Child x byte link)) × (packable b n k byte ≡ true)
      go (Some (Child y c l)) e h = let i = here y c l (packable b n k c) refl h in (rw e i.0, i.1)
      go (Some (Chain l)) e h = let z : ◌≡◌ {A = ℕ} 0 1 = cc in absurd (omega arith)
      go (Some Up) e h = let z : ◌≡◌ {A = ℕ} 0 1 = cc in absurd (omega arith)
      go None e h = let z : ◌≡◌ {A = ℕ} 0 1 = cc in absurd (omega arith)

  pub packed-chain : (link : ℕ) → step_in N cap b n k f ≡ Some (Chain link) → next_child N cap f ≡ Some (Chain link)
  unfolding step_in
  packed-chain link h = go (next_child N cap f) refl h
    where
      here : (y c l : ℕ) (q : Bool) → cond q (Some (Child y c l)) None ≡ Some (Chain link) → ⊥
      here y c l true h = let z : ◌≡◌ {A = ℕ} 0 1 = cc in omega arith
      here y c l false h = let z : ◌≡◌ {A = ℕ} 0 1 = cc in omega arith

      go : (s : Option Step) → next_child N cap f ≡ s → packing b n k s ≡ Some (Chain link) → next_child N cap f ≡ Some (Chain link)
      go (Some (Child y c l)) e h = absurd (here y c l (packable b n k c) h)
      go (Some (Chain l)) e h = rw e h
      go (Some Up) e h = rw e h
      go None e h = rw e h

  pub packed-up : step_in N cap b n k f ≡ Some Up → next_child N cap f ≡ Some Up
  unfolding step_in
  packed-up h = go (next_child N cap f) refl h
    where
      here : (y c l : ℕ) (q : Bool) → cond q (Some (Child y c l)) None ≡ Some Up → ⊥
      here y c l true h = let z : ◌≡◌ {A = ℕ} 0 1 = cc in omega arith
      here y c l false h = let z : ◌≡◌ {A = ℕ} 0 1 = cc in omega arith

      go : (s : Option Step) → next_child N cap f ≡ s → packing b n k s ≡ Some Up → next_child N cap f ≡ Some Up
      go (Some (Child y c l)) e h = absurd (here y c l (packable b n k c) h)
      go (Some (Chain l)) e h = rw e h
      go (Some Up) e h = rw e h
      go None e h = rw e h

  module _ (m : f.group < 8) where
    pub chain-within : (link : ℕ) → step_in N cap b n k f ≡ Some (Chain link) → f.group < 7
    chain-within link e = order.chain-within N cap f m link (packed-chain link e)

    pub child-within : (x byte link : ℕ) → step_in N cap b n k f ≡ Some (Child x byte link) → (x < cap) × (byte < 256)
    child-within x byte link e = order.child-within N cap f m x byte link (packed-child x byte link e).0
