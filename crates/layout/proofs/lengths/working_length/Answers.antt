-- The function `working_length` is the definition `working_length`.
use native.Mathlib.Omega.{arith}
use Rattle.layout.specs.Headers.{given_by}
use Rattle.layout.specs.Header.{bare}
use Rattle.layout.proofs.Sizes.{map-most, summary-most}
use Rattle.layout.proofs.lengths.working_length.Goals as goal

pub overflow_add-result : goal.overflow_add-result
overflow_add-result c =
    let s = given_by c.args.h in
    omega (arith, map-most s c.args.h.limits, summary-most s c.args.h.limits)
