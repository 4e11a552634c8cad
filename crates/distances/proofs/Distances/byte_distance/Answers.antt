-- The method `byte_distance` is the definition `byte_distance`: the entry of `distance_table` at b's row and v.
use mathlib.Core.Path.{◌≡◌, ap₂, ◌∙◌}
use Prim.Native.Nat.{ℕ, ◌+◌, ◌*◌, ◌-◌, ◌/◌, ◌%◌, ◌<◌}
use native.Mathlib.Omega.{arith}
use lib.ListN.{get_or}
use Rattle.meaning.specs.Sketch.{byte_distance}
use Rattle.meaning.proofs.Lists.{upto-at}
use Rattle.sketch.specs.Settings.{Bits}
use Rattle.distances.specs.Table.{distance_table}
use Rattle.distances.proofs.Distances.byte_distance.Goals as goal

entry : (b v : ℕ) → Bits b → v < 256 → get_or distance_table ((b - 1) * 256 + v) 0 ≡ byte_distance b v
unfolding distance_table
entry b v h hv =
    let k : ℕ = (b - 1) * 256 + v in
    let row : k / 256 + 1 ≡ b = omega arith in
    let place : k % 256 ≡ v = omega arith in
    upto-at (λ (i : ℕ). byte_distance (i / 256 + 1) (i % 256)) 2048 k 0 (omega arith)
    ∙ ap₂ byte_distance row place

pub returns : goal.returns
returns c =
    rw c.args.self.now.is_table
    (entry c.args.b c.args.v c.requires.bits (omega arith))
