-- `reach` is `reached`, by what the child is.
use mathlib.Core.Path.{ap, ◌∙◌}
use Rattle.std.specs.Prelude.{Some}
use Rattle.walk_steps.specs.declared.turn.Move.TheVariants as move
use Rattle.walk_steps.proofs.Turns.{reached-by, reached-exact, reached-short, reached-down}
use Rattle.walk_steps.proofs.turn.reach.Goals as goal

pub returns-then-radius-eq0 : goal.returns-then-radius-eq0
returns-then-radius-eq0 c = reached-exact _ _ _ _ _ _ c.kind_of.ensures c.in-Inner.is c.if-radius-eq0.true _ c.arrive-c.ensures

pub returns-then-level-bytes : goal.returns-then-level-bytes
returns-then-level-bytes c = reached-short _ _ _ _ _ _ c.kind_of.ensures c.in-Inner.is c.if-radius-eq0.false c.if-level-bytes.true

pub returns-in-Free : goal.returns-in-Free
returns-in-Free c = reached-by _ _ _ _ _ _ c.kind_of.ensures _ c.in-Free.is

pub returns-in-Leaf : goal.returns-in-Leaf
returns-in-Leaf c = ap (λ d. Some (move.Leaf d c.args.link)) c.ended.ensures ∙ reached-by _ _ _ _ _ _ c.kind_of.ensures _ c.in-Leaf.is

pub returns-else-level-bytes : goal.returns-else-level-bytes
returns-else-level-bytes c = reached-down _ _ _ _ _ _ c.kind_of.ensures c.in-Inner.is c.if-radius-eq0.false c.if-level-bytes.false
