-- `put_number` writes the number's text where it is to stand.
use Prim.Native.Nat.{◌+◌}
use native.Mathlib.Omega.{arith}
use mathlib.Core.Path.{ap}
use lib.ListN.{length}
use Rattle.std.specs.Fmt.{decimal as text}
use Rattle.journal_lines.proofs.Digits.{number-stored, same-decimal}
use Rattle.journal_lines.proofs.put_number.Goals as goal

pub write_digits-requires : goal.write_digits-requires
write_digits-requires c = (
  omega (arith, ap (λ k. length (text k)) c.from.ensures, c.places.ensures.value, ap length (same-decimal c.args.n c.ranges.n.fits)),
  omega (arith, c.places.ensures.upper_bound),
)

pub returns-clause-out_after : goal.returns-clause-out_after
returns-clause-out_after c =
    number-stored c.args.out.now c.write_digits.new.buf c.args.at c.args.n c.write_digits.result c.from.result (c.args.at + c.places.result)
    c.ranges.n.fits
    (omega (arith, c.places.ensures.value, c.places.ensures.upper_bound))
    (omega (arith, c.write_digits.ensures.start, ap (λ k. length (text k)) c.from.ensures, c.places.ensures.value, ap length (same-decimal c.args.n c.ranges.n.fits)))
    c.from.ensures
    (omega (arith, c.places.ensures.value))
    c.write_digits.ensures.before
    c.write_digits.ensures.written
