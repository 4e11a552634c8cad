-- Steps from child to child: they stay in the table.
use Rattle.std.specs.Prelude.{Option, Some, None}
use Prim.Native.Nat.{ℕ, ◌+◌, ◌*◌, ◌-◌, ◌<◌}
use native.Mathlib.Omega.{arith}
use mathlib.Core.Path.{◌≡◌, refl, subst}
use mathlib.Core.Bool.{Bool, true, false, cond}
use mathlib.Core.List.{List}
use lib.Dec.{ltb, eqb}
use lib.ListN.{get_or}
use borrow.Author.Tests.{ltb-true, ltb-false, eqb-false}
use Rattle.layout.specs.Nodes.{link_of, byte_of, head_at}
use Rattle.children.specs.declared.order.Frame.{Frame}
use Rattle.children.specs.declared.order.Step.{Step}
use Rattle.children.specs.declared.order.Step.TheVariants.{Chain, Child, Up}
use Rattle.children.specs.Order.{step_along, next_child}

-- head g of node x is 0
abbrev pub bare_at : List ℕ → ℕ → ℕ → ℕ → Bool
bare_at N cap x g = eqb (get_or N (head_at cap x g) 0) 0

-- a step leads to a chain of the eight, or to a node of the table, with a byte
abbrev Within : ℕ → Frame → Option Step → Type 0
Within cap f (Some (Chain link)) = f.group < 7
Within cap f (Some (Child x byte link)) = (x < cap) × (byte < 256)
Within cap f (Some Up) = Unit {0}
Within cap f None = Unit {0}

module _ (N : List ℕ) (cap : ℕ) (f : Frame) (m : f.group < 8) where
  within-along : 0 < f.link → Within cap f (step_along N cap f)
  unfolding step_along
  within-along s =
      let byte : ℕ = byte_of (get_or N (f.link - 1) 0) in
      go (ltb cap f.link) (ltb byte f.least) (ltb (32 * f.group + 31) byte) refl refl
    where
      go : (outside low high : Bool) → ltb cap f.link ≡ outside → ltb (32 * f.group + 31) (byte_of (get_or N (f.link - 1) 0)) ≡ high
          → Within cap f
          (cond outside None
          (cond low None
          (cond high None (Some (Child (f.link - 1) (byte_of (get_or N (f.link - 1) 0)) (link_of (get_or N (f.link - 1) 0)))))))
      go true low high e g = tt
      go false true high e g = tt
      go false false true e g = tt
      go false false false e g = (
        omega (arith, ltb-false cap f.link e),
        omega (arith, ltb-false (32 * f.group + 31) (byte_of (get_or N (f.link - 1) 0)) g),
      )

  step-within : Within cap f (next_child N cap f)
  unfolding next_child
  step-within = go (eqb f.link 0) (ltb f.group 7) refl refl
    where
      go : (q r : Bool) → eqb f.link 0 ≡ q → ltb f.group 7 ≡ r
          → Within cap f (cond q (cond r (Some (Chain (get_or N (head_at cap f.node (f.group + 1)) 0))) (Some Up)) (step_along N cap f))
      go true true e g = ltb-true f.group 7 g
      go true false e g = tt
      go false r e g = within-along (omega (arith, eqb-false f.link 0 e))

  pub chain-within : (link : ℕ) → next_child N cap f ≡ Some (Chain link) → f.group < 7
  chain-within link e = subst (Within cap f) e step-within

  pub child-within : (x byte link : ℕ) → next_child N cap f ≡ Some (Child x byte link) → (x < cap) × (byte < 256)
  child-within x byte link e = subst (Within cap f) e step-within
