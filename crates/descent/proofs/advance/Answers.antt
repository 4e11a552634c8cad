-- `advance` is its definition, by what the link leads to.
use native.Mathlib.Omega.{arith}
use mathlib.Core.Path.{sym, ◌∙◌}
use Rattle.children.proofs.Cursors.{look-below}
use Rattle.descent.proofs.Steps.{advance-ended, advance-outside, advance-along, advance-past, advance-down}
use Rattle.descent.proofs.advance.Goals as goal

pub returns-then-c-eq0 : goal.returns-then-c-eq0
returns-then-c-eq0 c = sym (advance-ended _ _ _ _ c.if-c-eq0.true)

pub returns-then-byte-y : goal.returns-then-byte-y
returns-then-byte-y c = advance-along _ _ _ _ c.if-c-eq0.false _ c.look.ensures _ _ _ c.in-Some.is c.if-byte-y.true

pub returns-then-y-byte : goal.returns-then-y-byte
returns-then-y-byte c = c.ended-then-y-byte.ensures ∙ advance-past _ _ _ _ c.if-c-eq0.false _ c.look.ensures _ _ _ c.in-Some.is c.if-y-byte.true

pub returns-in-None : goal.returns-in-None
returns-in-None c = c.ended.ensures ∙ advance-outside _ _ _ _ c.if-c-eq0.false _ c.look.ensures c.in-None.is

pub returns-else-y-byte : goal.returns-else-y-byte
returns-else-y-byte c = c.arrive.ensures ∙ advance-down _ _ _ _ c.if-c-eq0.false _ c.look.ensures _ _ _ c.in-Some.is c.if-byte-y.false c.if-y-byte.false

pub arrive-requires-clause-x_lt_cap : goal.arrive-requires-clause-x_lt_cap
arrive-requires-clause-x_lt_cap c = (look-below _ _ _ _ _ _ (omega arith) _ c.look.ensures c.in-Some.is, c.requires.inside.last)
