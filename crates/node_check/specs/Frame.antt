-- The step to the next child of an inner node that is to be tested. N is the node table.
use Rattle.std.specs.Prelude.{ℕ, cond, List, Option, Some, None}
use Rattle.meaning.specs.Sketch.{packable}
use Rattle.children.specs.declared.order.Frame.{Frame}
use Rattle.children.specs.declared.order.Step.{Step}
use Rattle.children.specs.declared.order.Step.TheVariants.{Chain, Child, Up}
use Rattle.children.specs.Order.{next_child}

-- in a node at level k of a block of n symbols of b bits, bytes are such as packing can give there
abbrev pub packing : ℕ → ℕ → ℕ → Option Step → Option Step
packing b n k (Some (Child x byte link)) = cond (packable b n k byte) (Some (Child x byte link)) None
packing b n k (Some (Chain link)) = Some (Chain link)
packing b n k (Some Up) = Some Up
packing b n k None = None

unfoldable pub step_in : List ℕ → ℕ → ℕ → ℕ → ℕ → Frame → Option Step
step_in N cap b n k f = packing b n k (next_child N cap f)
