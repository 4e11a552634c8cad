-- `next`: each turn takes one step of the machine, behind the leaves that wait.
use native.Mathlib.Omega.{arith}
use mathlib.Core.Path.{refl, ap, ◌∙◌}
use Rattle.std.specs.Prelude.{Some}
use Rattle.walk.proofs.Going.{kept, going_start, going-full, going-chain, going-past, going-leaf, going-down, going-up, going-over, going-broken}
use Rattle.walk.proofs.batch.next.Goals as goal

pub loop-n-init : goal.loop-n-init
loop-n-init c = going_start _ _ _ _ refl c.requires

pub on_chain-place-requires : goal.on_chain-place-requires
on_chain-place-requires c = kept _ _ _ c.args.walk.now.fitting c.loop-n.invariant _ c.turn.ensures _ (c.in-Some.is ∙ ap Some c.in-Chain.is)

pub loop-n-smaller-in-Chain : goal.loop-n-smaller-in-Chain
loop-n-smaller-in-Chain c = omega (arith, ap (λ p. p.steps) c.on_chain-place.ensures, kept _ _ _ c.args.walk.now.fitting c.loop-n.invariant _ c.turn.ensures _ (c.in-Some.is ∙ ap Some c.in-Chain.is))

pub loop-n-preserved-in-Chain : goal.loop-n-preserved-in-Chain
loop-n-preserved-in-Chain c = going-chain _ _ _ c.args.walk.now.fitting c.loop-n.invariant _ c.turn.ensures _ _ (c.in-Some.is ∙ ap Some c.in-Chain.is) _ c.on_chain-place.ensures

pub on_link-place-requires : goal.on_link-place-requires
on_link-place-requires c = kept _ _ _ c.args.walk.now.fitting c.loop-n.invariant _ c.turn.ensures _ (c.in-Some.is ∙ ap Some c.in-Past.is)

pub loop-n-smaller-in-Past : goal.loop-n-smaller-in-Past
loop-n-smaller-in-Past c = omega (arith, ap (λ p. p.steps) c.on_link-place.ensures, kept _ _ _ c.args.walk.now.fitting c.loop-n.invariant _ c.turn.ensures _ (c.in-Some.is ∙ ap Some c.in-Past.is))

pub loop-n-preserved-in-Past : goal.loop-n-preserved-in-Past
loop-n-preserved-in-Past c = going-past _ _ _ c.args.walk.now.fitting c.loop-n.invariant _ c.turn.ensures _ (c.in-Some.is ∙ ap Some c.in-Past.is) _ c.on_link-place.ensures

pub on_link-place-requires-in-Leaf : goal.on_link-place-requires-in-Leaf
on_link-place-requires-in-Leaf c = let h = kept _ _ _ c.args.walk.now.fitting c.loop-n.invariant _ c.turn.ensures _ (c.in-Some.is ∙ ap Some c.in-Leaf.is) in (h.0, h.1)

pub loop-n-smaller-in-Leaf : goal.loop-n-smaller-in-Leaf
loop-n-smaller-in-Leaf c = omega (arith, ap (λ p. p.steps) c.on_link-place-in-Leaf.ensures, (kept _ _ _ c.args.walk.now.fitting c.loop-n.invariant _ c.turn.ensures _ (c.in-Some.is ∙ ap Some c.in-Leaf.is)).1)

pub loop-n-preserved-in-Leaf : goal.loop-n-preserved-in-Leaf
loop-n-preserved-in-Leaf c = going-leaf _ _ _ c.args.walk.now.fitting c.loop-n.invariant _ c.turn.ensures c.loop-n-test.true _ _ (c.in-Some.is ∙ ap Some c.in-Leaf.is) _ c.on_link-place-in-Leaf.ensures

pub on_link-above-requires : goal.on_link-above-requires
on_link-above-requires c = let h = kept _ _ _ c.args.walk.now.fitting c.loop-n.invariant _ c.turn.ensures _ (c.in-Some.is ∙ ap Some c.in-Down.is) in (h.0, h.1)

pub loop-n-smaller-in-Down : goal.loop-n-smaller-in-Down
loop-n-smaller-in-Down c = omega (arith, ap (λ p. p.steps) c.lower-place.ensures, ap (λ p. p.steps) c.on_link-above.ensures, (kept _ _ _ c.args.walk.now.fitting c.loop-n.invariant _ c.turn.ensures _ (c.in-Some.is ∙ ap Some c.in-Down.is)).1)

pub loop-n-preserved-in-Down : goal.loop-n-preserved-in-Down
loop-n-preserved-in-Down c = going-down _ _ _ c.args.walk.now.fitting c.loop-n.invariant _ c.turn.ensures _ _ _ (c.in-Some.is ∙ ap Some c.in-Down.is) _ _ c.on_link-above.ensures c.lower-place.ensures

pub returns-then-place-eq0 : goal.returns-then-place-eq0
returns-then-place-eq0 c = going-over _ _ _ c.args.walk.now.fitting c.loop-n.invariant _ c.turn.ensures (c.in-Some.is ∙ ap Some c.in-Up.is) c.if-place-eq0.true c.loop-n-test.true _ c.settle.ensures

pub raise-place-requires : goal.raise-place-requires
raise-place-requires c = (omega (arith, c.if-place-eq0.false), omega (arith, c.loop-n.invariant.stands.level, c.args.walk.now.fitting.bytes), kept _ _ _ c.args.walk.now.fitting c.loop-n.invariant _ c.turn.ensures _ (c.in-Some.is ∙ ap Some c.in-Up.is))

pub loop-n-smaller : goal.loop-n-smaller
loop-n-smaller c = omega (arith, ap (λ p. p.steps) c.raise-place.ensures, kept _ _ _ c.args.walk.now.fitting c.loop-n.invariant _ c.turn.ensures _ (c.in-Some.is ∙ ap Some c.in-Up.is))

pub loop-n-preserved : goal.loop-n-preserved
loop-n-preserved c = going-up _ _ _ c.args.walk.now.fitting c.loop-n.invariant _ c.turn.ensures (c.in-Some.is ∙ ap Some c.in-Up.is) (omega (arith, c.if-place-eq0.false)) _ c.raise-place.ensures

pub returns-in_default : goal.returns-in_default
returns-in_default c = rw c.bare.ensures (going-broken _ _ _ c.args.walk.now.fitting c.loop-n.invariant _ c.turn.ensures c.in_default.is)

pub returns : goal.returns
returns c = going-full _ _ _ c.args.walk.now.fitting c.loop-n.invariant c.loop-n-test.false _ c.settle-2.ensures

pub lower-place-requires-clause-x_lt_cap : goal.lower-place-requires-clause-x_lt_cap
lower-place-requires-clause-x_lt_cap c = let h = kept _ _ _ c.args.walk.now.fitting c.loop-n.invariant _ c.turn.ensures _ (c.in-Some.is ∙ ap Some c.in-Down.is) in (h.2, omega (arith, ap (λ p. p.depth) c.on_link-above.ensures, c.loop-n.invariant.stands.level, c.args.walk.now.fitting.bytes))
