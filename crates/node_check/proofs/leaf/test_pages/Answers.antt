-- The function `test_pages` is the definition `test_pages`: each turn takes one step of the definition.
use Prim.Native.Nat.{◌+◌, ◌-◌}
use mathlib.Core.Path.{◌∙◌, sym}
use native.Mathlib.Omega.{arith}
use Rattle.node_check.proofs.LeafSteps.{pages-end, pages-spent, pages-outside, pages-dead, pages-astray, pages-next}
use Rattle.node_check.proofs.leaf.test_pages.Goals as goal

pub returns-then-link-eq0 : goal.returns-then-link-eq0
returns-then-link-eq0 c = sym (pages-end _ _ _ _ _ _ _ _ _ c.if-link-eq0.true) ∙ c.loop-link.invariant.0

pub returns-then-left-eq0 : goal.returns-then-left-eq0
returns-then-left-eq0 c = sym (pages-spent _ _ _ _ _ _ _ _ _ (omega arith) c.if-left-eq0.true) ∙ c.loop-link.invariant.0

pub returns-then-p-block : goal.returns-then-p-block
returns-then-p-block c = sym (pages-outside _ _ _ _ _ _ _ _ _ (omega arith)) ∙ c.loop-link.invariant.0

pub returns-then-not-is_live : goal.returns-then-not-is_live
returns-then-not-is_live c = sym (pages-dead _ _ _ _ _ _ _ _ _ (omega arith) (omega arith) (omega arith) (sym c.is_live.ensures ∙ c.if-not-is_live.true)) ∙ c.loop-link.invariant.0

pub returns-then-not-is_on_path : goal.returns-then-not-is_on_path
returns-then-not-is_on_path c = sym (pages-astray _ _ _ _ _ _ _ _ _ (omega arith) (omega arith) (omega arith) (sym c.is_live.ensures ∙ c.if-not-is_live.false) (sym c.is_on_path.ensures ∙ c.if-not-is_on_path.true)) ∙ c.loop-link.invariant.0

pub loop-link-preserved : goal.loop-link-preserved
loop-link-preserved c = (
  sym (pages-next _ _ _ _ _ _ _ _ _ (omega arith) (omega arith) (omega arith) (sym c.is_live.ensures ∙ c.if-not-is_live.false) (sym c.is_on_path.ensures ∙ c.if-not-is_on_path.false)) ∙ c.loop-link.invariant.0,
  omega (arith, c.type_inv.pages (c.args.leaves.now.block.base + (c.loop-link.link - 1))),
  omega arith,
)
