-- `packable` is the test of its name: a byte of c symbols is below 2^(b × c).
use mathlib.Core.Path.{ap}
use Prim.Native.Nat.{ℕ, ◌*◌, ◌^◌, ◌≤◌}
use native.Mathlib.Omega.{arith}
use lib.Dec.{ltb}
use Rattle.meaning.specs.Sketch.{per_byte, packable, symbols_at}
use Rattle.sketch.proofs.Width.{shifted, bits-within}
use Rattle.sketch.proofs.packing.packable.Goals as goal
use Rattle.sketch.proofs.packing.packable.Goals.{After-symbols_at}

within : (c : After-symbols_at) → c.args.b * c.symbols_at.result ≤ 8
unfolding symbols_at
within c =
    let few : c.symbols_at.result ≤ per_byte c.args.b = omega arith in
    bits-within c.args.b c.symbols_at.result few

pub overflow_shl-result : goal.overflow_shl-result
overflow_shl-result c = omega (arith, within c)

pub returns : goal.returns
unfolding packable
returns c =
    rw (shifted (c.args.b * c.symbols_at.result) (within c))
    (ap (λ (i : ℕ). ltb c.args.v (2 ^ (c.args.b * i))) c.symbols_at.ensures)
