-- `turn` is `turned`, by the next step in the node.
use native.Mathlib.Omega.{arith}
use mathlib.Core.Path.{ap, ◌∙◌}
use Rattle.std.specs.Prelude.{Some}
use Rattle.children.proofs.Cursors.{next-below}
use Rattle.walk_steps.proofs.Turns.{turned-out, turned-chain, turned_up, turned-broken, turned-past, turned-reached}
use Rattle.walk_steps.proofs.turn.turn.Goals as goal

pub returns-then-place-eq0-2 : goal.returns-then-place-eq0-2
returns-then-place-eq0-2 c = turned-out _ _ c.if-place-eq0.false _ c.step.ensures _ _ _ (c.in_ok-next.was ∙ ap Some c.in-Child.is) c.if-place-eq0-2.true

pub returns-then-frame-d : goal.returns-then-frame-d
returns-then-frame-d c = turned-past _ _ c.if-place-eq0.false _ c.step.ensures _ _ _ (c.in_ok-next.was ∙ ap Some c.in-Child.is) c.if-place-eq0-2.false _ c.byte_distance-d.ensures c.if-frame-d.true

pub returns-in-Chain : goal.returns-in-Chain
returns-in-Chain c = turned-chain _ _ c.if-place-eq0.false _ c.step.ensures _ _ (c.in_ok-next.was ∙ ap Some c.in-Chain.is)

pub returns-in-End : goal.returns-in-End
returns-in-End c = turned_up _ _ c.if-place-eq0.false _ c.step.ensures (c.in_ok-next.was ∙ ap Some c.in-End.is)

pub returns-else-frame-d : goal.returns-else-frame-d
returns-else-frame-d c = turned-reached _ _ c.if-place-eq0.false _ c.step.ensures _ _ _ (c.in_ok-next.was ∙ ap Some c.in-Child.is) c.if-place-eq0-2.false _ c.byte_distance-d.ensures c.if-frame-d.false _ c.reach.ensures

pub reach-requires : goal.reach-requires
reach-requires c = (next-below _ _ _ _ _ _ _ c.step.ensures (c.in_ok-next.was ∙ ap Some c.in-Child.is), omega (arith, c.args.walk.now.fitting.bytes, c.requires.0))

pub returns-in_err-next : goal.returns-in_err-next
returns-in_err-next c = c.from_residual.ensures ∙ turned-broken _ _ c.if-place-eq0.false _ c.step.ensures c.in_err-next.was
