-- What a step in a node says of the words that it read, and of its byte.
use Rattle.std.specs.Prelude.{Some}
use Prim.Native.Nat.{ℕ}
use mathlib.Core.Path.{◌≡◌}
use mathlib.Core.Bool.{true}
use mathlib.Core.List.{List}
use Rattle.meaning.specs.Sketch.{packable}
use Rattle.children.specs.declared.order.Frame.{Frame}
use Rattle.children.specs.declared.order.Step.TheVariants.{Chain, Child, Up}
use Rattle.children.proofs.StepWords as words
use Rattle.node_check.specs.Frame.{step_in}
use Rattle.node_check.proofs.Steps.{packed-child, packed-chain, packed-up}

module _ (N : List ℕ) (cap b n k : ℕ) (f : Frame) where
  -- a child x with a byte, followed by a link
  pub record AtChild (x byte next : ℕ) : Type 0 where
    pub here : words.AtChild N cap f x byte next
    pub packs : packable b n k byte ≡ true

  pub step-child : (x byte next : ℕ) → step_in N cap b n k f ≡ Some (Child x byte next) → AtChild x byte next
  step-child x byte next h =
      let p = packed-child N cap b n k f x byte next h in
      record { here = words.step-child N cap f x byte next p.0; packs = p.1 }

  pub step-chain : (next : ℕ) → step_in N cap b n k f ≡ Some (Chain next) → words.AtChain N cap f next
  step-chain next h = words.step-chain N cap f next (packed-chain N cap b n k f next h)

  pub step-up : step_in N cap b n k f ≡ Some Up → words.AtEnd N cap f
  step-up h = words.step-up N cap f (packed-up N cap b n k f h)
