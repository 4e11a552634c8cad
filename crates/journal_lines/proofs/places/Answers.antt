-- `places` counts the digits: those counted and those of what is left are one more than the whole number's.
use native.Mathlib.Omega.{arith}
use Rattle.journal_lines.proofs.Digits.{one-long, more-long, some_digit, ten-digits}
use Rattle.journal_lines.proofs.places.Goals as goal

pub returns-then-rest-lt10-clause-value : goal.returns-then-rest-lt10-clause-value
returns-then-rest-lt10-clause-value c = omega (arith, c.loop-k.invariant, one-long c.loop-k.rest (omega arith))

pub loop-k-preserved : goal.loop-k-preserved
loop-k-preserved c = omega (arith, c.loop-k.invariant, more-long c.loop-k.rest (omega arith))

pub returns-clause-value : goal.returns-clause-value
returns-clause-value c = omega (arith, c.loop-k.invariant, some_digit c.loop-k.rest, ten-digits c.args.n c.ranges.n.fits)
