use mathlib.Core.Path.{◌≡◌}
use Prim.Native.Nat.{◌-◌}
use Rattle.meaning.specs.Lists.{all, from}
use Rattle.children.specs.Order.{bare}
use Rattle.children.proofs.Ordered.{bare_at}
use Rattle.children.proofs.order.is_bare.Given as goal

abbrev pub invariant-loop-g : goal.invariant-loop-g
invariant-loop-g l = all (bare_at l.nodes l.cap l.x) (from l.g (8 - l.g)) ≡ bare l.nodes l.cap l.x
