-- `measure_symbols` goes over the places in strips.
use mathlib.Core.Path.{sym, ◌∙◌}
use Prim.Native.Nat.{◌+◌, ◌-◌, ◌^◌, ◌<◌, ◌≤◌}
use native.Mathlib.Omega.{arith}
use borrow.Author.Rules.{rules}
use borrow.Author.Tests.{le-ltb, lt-ltb}
use Rattle.sketch.proofs.Width.{shifted}
use Rattle.sketch_calls.specs.Measuring.{After}
use Rattle.sketch_calls.proofs.Measuring.{after_none, after-most, after_more, ended}
use Rattle.sketch_calls.proofs.calls.measure_symbols.Goals as goal
use Rattle.sketch_calls.proofs.calls.measure_symbols.Goals.{Else-strip-limit}

-- after the strip
turned : (c : Else-strip-limit) →
    let at-strip = c in
    let at-end = at-strip in
    let at-loop = at-end in
    let args = at-loop.args in
    After args.b args.x.now args.y.now at-end.strip_end-end.result (at-loop.loop-k.d + at-strip.go_over-strip.result.differing)
turned c =
    let at-strip = c in
    let at-end = at-strip in
    let at-loop = at-end in
    let start = at-loop in
    let b = start.args.b in
    let low : at-strip.go_over-strip.result.bits < 2 ^ b = rw (shifted b start.requires.bits.1) at c.if-strip-limit.false in
    let within = sym (at-strip.go_over-strip.ensures.range b) ∙ lt-ltb _ (2 ^ b) low in
    after_more b _ _ at-loop.loop-k.k _ _ _ (omega (arith, at-end.strip_end-end.ensures)) start.requires.x_len at-loop.loop-k.invariant.1 within at-strip.go_over-strip.ensures.number

pub loop-k-init : goal.loop-k-init
loop-k-init c = (search rules, after_none _ _ _)

pub returns-then-strip-limit : goal.returns-then-strip-limit
returns-then-strip-limit c =
    let at-strip = c in
    let at-end = at-strip in
    let at-loop = at-end in
    let b = at-loop.args.b in
    let high : 2 ^ b ≤ at-strip.go_over-strip.result.bits = rw (shifted b at-loop.requires.bits.1) at c.if-strip-limit.true in
    let out = sym (at-strip.go_over-strip.ensures.range b) ∙ le-ltb _ (2 ^ b) high in
    sym (ended b _ _ at-loop.loop-k.k (at-end.strip_end-end.result - at-loop.loop-k.k) out)

pub overflow_add-d : goal.overflow_add-d
overflow_add-d c = omega (arith, after-most _ _ _ _ _ (turned (goal.at.overflow_add-d c).Else-strip-limit))

pub loop-k-preserved : goal.loop-k-preserved
loop-k-preserved c = (omega (arith, c.strip_end-end.ensures), turned (goal.at.loop-k-preserved c).Else-strip-limit)
