-- The function `signature_distance` is the definition `signature_distance`: each entry of the table is the distance of one byte.
use mathlib.Core.Path.{◌≡◌}
use Prim.Native.Nat.{ℕ, ◌+◌, ◌≤◌}
use native.Mathlib.Omega.{arith}
use Rattle.meaning.specs.Sketch.{byte_distance}
use Rattle.sketch.proofs.Width.{byte-distance-most}
use Rattle.signature.proofs.signature_distance.Goals as goal
use Rattle.signature.proofs.signature_distance.Goals.{After-byte_distance-2}

few : (b v d : ℕ) → d ≡ byte_distance b v → d ≤ 8
few b v d e = omega (arith, byte-distance-most b v)

two : (c : After-byte_distance-2) → c.byte_distance.result + c.byte_distance-2.result ≤ 16
two c = omega (arith, few _ _ _ c.byte_distance.ensures, few _ _ _ c.byte_distance-2.ensures)

pub overflow_add-result : goal.overflow_add-result
overflow_add-result c = omega (arith, two c)

pub overflow_add-result-2 : goal.overflow_add-result-2
overflow_add-result-2 c = omega (arith, two (goal.at.overflow_add-result-2 c).After-byte_distance-2, few _ _ _ c.byte_distance-3.ensures)

pub overflow_add-result-3 : goal.overflow_add-result-3
overflow_add-result-3 c =
    omega (arith, two (goal.at.overflow_add-result-3 c).After-byte_distance-2, few _ _ _ c.byte_distance-3.ensures, few _ _ _ c.byte_distance-4.ensures)
