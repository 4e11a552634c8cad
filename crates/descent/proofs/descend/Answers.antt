-- `descend`: each round draws a node for each descent that goes on, and makes one step of each.
use native.Mathlib.Omega.{arith}
use Rattle.descent.proofs.Rounds.{goes-byte, goes-most, going-most, round-start, round-next, paid-start, paid-next, paid-short, paid-over}
use Rattle.descent.proofs.descend.Goals as goal

pub loop-more-init : goal.loop-more-init
loop-more-init c = paid-start _ _ _ _ _ c.requires.all_inside _ _ c.going-more.ensures

pub returns-then-left-more : goal.returns-then-left-more
returns-then-left-more c = paid-short _ _ _ _ c.loop-more.invariant c.requires.all_inside c.requires.budget_lt_cap c.if-left-more.true

pub loop-j-init : goal.loop-j-init
loop-j-init c = round-start _ _ _ _ _

pub loop-more-preserved : goal.loop-more-preserved
loop-more-preserved c =
    let round = c.loop-more in
    let at = c.loop-j in
    paid-next _ _ _ _ round.invariant at.invariant (omega (arith, at.auto.j-end, c.loop-j-test.false)) (omega (arith, c.loop-more-test.true)) (omega (arith, c.if-left-more.false))

pub overflow_add-more : goal.overflow_add-more
overflow_add-more c =
    let at = c.loop-j in
    let d = c.advance-c.result in
    record { fits = omega (arith, at.auto.j-end, at.invariant.on, going-most at.cursors at.j, c.requires.all_inside.few, goes-byte d, goes-most d) }

pub loop-j-preserved : goal.loop-j-preserved
loop-j-preserved c =
    let start = c.requires.all_inside in
    round-next _ _ _ _ c.loop-j.invariant (omega (arith, c.loop-j-test.true, c.loop-more.invariant.rounds.long, start.long, start.few)) _ c.advance-c.ensures

pub returns : goal.returns
returns c = paid-over _ _ _ _ c.loop-more.invariant c.requires.all_inside c.requires.budget_lt_cap (omega (arith, c.loop-more-test.false))
