-- `is_bare` is `bare`: the heads from g on decide it.
use mathlib.Core.Path.{sym, ◌∙◌}
use borrow.Author.Tests.{eq-eqb, ne_eqb}
use Rattle.sketch.proofs.Runs.{all-fails, all-passes, all_done}
use Rattle.children.proofs.Ordered.{bare_at}
use Rattle.children.proofs.order.is_bare.Goals as goal

pub returns-then-nodes-head_at-ne0 : goal.returns-then-nodes-head_at-ne0
returns-then-nodes-head_at-ne0 c =
    let args = c.args in
    sym (all-fails (bare_at args.nodes.now args.cap args.x) c.loop-g.g 8 c.loop-g-test.true (rw (← c.head_at.ensures) (ne_eqb _ _ c.if-nodes-head_at-ne0.true)))
    ∙ c.loop-g.invariant

pub loop-g-preserved : goal.loop-g-preserved
loop-g-preserved c =
    let args = c.args in
    sym (all-passes (bare_at args.nodes.now args.cap args.x) c.loop-g.g 8 c.loop-g-test.true (rw (← c.head_at.ensures) (eq-eqb _ _ c.if-nodes-head_at-ne0.false)))
    ∙ c.loop-g.invariant

pub returns : goal.returns
returns c =
    let args = c.args in
    sym (all_done (bare_at args.nodes.now args.cap args.x) c.loop-g.g 8 c.loop-g-test.false) ∙ c.loop-g.invariant
