-- `needed` is `lengths_of`.
use native.Mathlib.Omega.{arith}
use mathlib.Core.Path.{sym, ◌∙◌}
use Rattle.layout.proofs.Limits.{header-limits}
use Rattle.layout.specs.Limits.{HeaderLimits}
use Rattle.fresh_tables.proofs.Fits.{nodes-fit, pages-fit, sketches-fit, working-fit}
use Rattle.fresh_tables.proofs.lengths.needed.Goals as goal
use Rattle.fresh_tables.proofs.lengths.needed.Goals.{Else-not-limits}

-- past 4
bounds : (c : Else-not-limits) → HeaderLimits c.args.given
bounds c = header-limits _ 64 (sym c.limits.ensures ∙ c.if-not-limits.false)

pub new-h-requires : goal.new-h-requires
new-h-requires c = bounds c

pub overflow_cast-result-2 : goal.overflow_cast-result-2
overflow_cast-result-2 c = omega (arith, c.nodes_length.ensures, nodes-fit _ c.new-h.result.limits)

pub overflow_cast-result-3 : goal.overflow_cast-result-3
overflow_cast-result-3 c = omega (arith, c.pages_length.ensures, pages-fit _ c.new-h.result.limits)

pub overflow_cast-result-4 : goal.overflow_cast-result-4
overflow_cast-result-4 c = omega (arith, c.sketches_length.ensures, sketches-fit _ c.new-h.result.limits)

pub overflow_cast-result-5 : goal.overflow_cast-result-5
overflow_cast-result-5 c = omega (arith, c.working_length.ensures, working-fit _ c.new-h.result.limits)
