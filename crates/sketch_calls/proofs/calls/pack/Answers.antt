-- `pack` asks its questions in order, and writes its output where no answer is "no".
use mathlib.Core.Bool.{true}
use mathlib.Core.Path.{◌≡◌, sym, ◌∙◌}
use native.Mathlib.Omega.{arith}
use Rattle.meaning.specs.SketchCalls.{sketch_limits}
use Rattle.sketch_calls.proofs.Answers.{within}
use Rattle.sketch.proofs.Width.{bytes_most}
use Rattle.sketch_calls.proofs.calls.pack.Goals as goal
use Rattle.sketch_calls.proofs.calls.pack.Goals.{Else-not-within_limits}

-- question 4 is answered yes
limits : (c : Else-not-within_limits) → sketch_limits c.args.b c.args.m ≡ true
limits c = sym c.within_limits.ensures ∙ c.if-not-within_limits.false

pub in_range-requires : goal.in_range-requires
in_range-requires c = (within _ _ (limits (goal.at.in_range-requires c).Else-not-within_limits)).0

pub overflow_cast-value : goal.overflow_cast-value
overflow_cast-value c =
    let args = c.args in
    let limited = within _ _ (limits (goal.at.overflow_cast-value c).Else-not-within_limits) in
    omega (arith, bytes_most args.b args.m)

pub packed_length-needed-requires-clause-bits : goal.packed_length-needed-requires-clause-bits
packed_length-needed-requires-clause-bits c = (within _ _ (limits (goal.at.packed_length-needed-requires-clause-bits c).Else-not-within_limits)).0

pub packed_length-needed-requires-clause-n_bound : goal.packed_length-needed-requires-clause-n_bound
packed_length-needed-requires-clause-n_bound c = (within _ _ (limits (goal.at.packed_length-needed-requires-clause-n_bound c).Else-not-within_limits)).1

pub pack_into-requires-clause-bits : goal.pack_into-requires-clause-bits
pack_into-requires-clause-bits c = let at_length = c in let args = at_length.args in let limited = within _ _ (limits (goal.at.pack_into-requires-clause-bits at_length).Else-not-within_limits) in limited.0

pub pack_into-requires-clause-n_bound : goal.pack_into-requires-clause-n_bound
pack_into-requires-clause-n_bound c = let at_length = c in let args = at_length.args in let limited = within _ _ (limits (goal.at.pack_into-requires-clause-n_bound at_length).Else-not-within_limits) in limited.1
