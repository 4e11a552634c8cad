-- `measure` asks its questions in order, and gives the distance.
use mathlib.Core.Bool.{true, false, cond, ◌&&◌}
use mathlib.Core.Path.{◌≡◌, refl, sym, ◌∙◌}
use native.Mathlib.Omega.{arith}
use borrow.Author.Tests.{eq-eqb, ne_eqb}
use lib.Dec.{eqb}
use lib.ListN.{length}
use Rattle.meaning.specs.Refusal.{first_no}
use Rattle.meaning.specs.Sketch.{in_range}
use Rattle.meaning.specs.SketchCalls.{sketch_limits, measure_number}
use Rattle.sketch_calls.proofs.Answers.{within, measured, loop-answers}
use Rattle.sketch_calls.proofs.calls.measure.Goals as goal
use Rattle.sketch_calls.proofs.calls.measure.Goals.{Else-not-within_limits, Else-y-n, then-x-n-via-then-x-n, then-x-n-via-else-x-n+then-y-n}

-- question 4 is answered yes, and what follows
limits : (c : Else-not-within_limits) → sketch_limits c.args.b c.args.m ≡ true
limits c = sym c.within_limits.ensures ∙ c.if-not-within_limits.false

-- questions 4 and 10 are answered yes: 11 is left
past : (c : Else-y-n) →
    let args = c.args in
    measure_number args.b args.m args.x.now args.y.now ≡ cond (in_range args.b args.x.now && in_range args.b args.y.now) 0 11
unfolding measure_number first_no
past c = rw (limits (goal.at.measure_symbols-requires-clause-bits c).Else-not-within_limits, eq-eqb _ _ c.if-x-n.false, eq-eqb _ _ c.if-y-n.false)

pub returns-then-not-within_limits : goal.returns-then-not-within_limits
unfolding measure_number first_no
returns-then-not-within_limits c =
    measured _ _ _ _ 0 (rw (sym c.within_limits.ensures ∙ c.if-not-within_limits.true)) refl

pub returns-then-x-n : goal.returns-then-x-n
unfolding measure_number first_no
returns-then-x-n c =
    let args = c.args in
    let lengths : eqb (length args.x.now) args.m && eqb (length args.y.now) args.m ≡ false =
    elim c.then-x-n.branch [ then-x-n-via-then-x-n w ↦ rw (ne_eqb _ _ w.if-x-n.true) | then-x-n-via-else-x-n+then-y-n w ↦ rw (eq-eqb _ _ w.if-x-n.false, ne_eqb _ _ w.if-y-n.true) ] in
    measured _ _ _ _ 0 (rw (limits (goal.at.returns-then-x-n c).Else-not-within_limits, lengths)) refl

pub returns : goal.returns
returns c = rw c.measure_symbols.ensures (loop-answers _ _ _ _ (past (goal.at.returns c).Else-y-n))

pub measure_symbols-requires-clause-bits : goal.measure_symbols-requires-clause-bits
measure_symbols-requires-clause-bits c = let limited = within _ _ (limits (goal.at.measure_symbols-requires-clause-bits c).Else-not-within_limits) in limited.0

pub measure_symbols-requires-clause-x_len_bound : goal.measure_symbols-requires-clause-x_len_bound
measure_symbols-requires-clause-x_len_bound c = let limited = within _ _ (limits (goal.at.measure_symbols-requires-clause-x_len_bound c).Else-not-within_limits) in omega (arith, limited.1)
