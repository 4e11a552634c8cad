-- The function `in_range` is the definition `in_range`: the bits taken so far, and the range of what is left, decide it.
use mathlib.Core.Path.{sym, ◌∙◌}
use native.Mathlib.Omega.{arith}
use lib.Bits.{or_lt}
use Rattle.sketch.proofs.Places.{range-end, range-more}
use Rattle.sketch.proofs.Width.{shifted}
use Rattle.sketch.proofs.symbols.in_range.Goals as goal

pub loop-x-preserved : goal.loop-x-preserved
loop-x-preserved c =
    let at-loop = c in
    let args = at-loop.args in
    let read = c.type_inv.xs at-loop.loop-x.x-index in (
      or_lt 8 _ _ at-loop.loop-x.invariant.0 read.fits,
      range-more args.b at-loop.loop-x.bits args.xs.now at-loop.loop-x.x-index (omega arith) ∙ at-loop.loop-x.invariant.1,
    )

pub returns : goal.returns
returns c =
    let at-loop = c in
    let args = at-loop.args in
    rw (shifted args.b at-loop.requires.1)
    (sym (range-end args.b _ args.xs.now at-loop.loop-x.x-index (omega arith)) ∙ at-loop.loop-x.invariant.1)
