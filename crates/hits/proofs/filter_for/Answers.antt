-- The function `filter_for` is the definition.
use mathlib.Core.Path.{refl}
use Prim.Native.Nat.{◌*◌}
use native.Mathlib.Omega.{arith}
use Rattle.meaning.specs.Sketch.{per_byte}
use borrow.Author.Tests.{lt-ltb, le-ltb}
use Rattle.sketch.proofs.Width.{z-most}
use Rattle.hits.proofs.filter_for.Goals as goal

pub overflow_mul-per_byte : goal.overflow_mul-per_byte
overflow_mul-per_byte c = omega (arith, c.per_byte.ensures, z-most c.args.h.b)

pub returns-then-radius-per_byte : goal.returns-then-radius-per_byte
returns-then-radius-per_byte c = rw (le-ltb c.args.radius (4 * per_byte c.args.h.b) (omega (arith, c.per_byte.ensures, c.if-radius-per_byte.true))) refl

pub returns : goal.returns
returns c = rw (lt-ltb c.args.radius (4 * per_byte c.args.h.b) (omega (arith, c.per_byte.ensures, c.if-radius-per_byte.false))) refl
