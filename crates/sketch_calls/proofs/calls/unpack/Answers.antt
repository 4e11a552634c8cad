-- `unpack` asks its questions in order, and writes its output where no answer is "no".
use mathlib.Core.Bool.{true}
use mathlib.Core.Path.{◌≡◌, sym, ◌∙◌}
use Rattle.meaning.specs.SketchCalls.{sketch_limits}
use Rattle.sketch_calls.proofs.Answers.{within}
use Rattle.sketch_calls.proofs.calls.unpack.Goals as goal
use Rattle.sketch_calls.proofs.calls.unpack.Goals.{Else-not-within_limits}

-- question 4 is answered yes
limits : (c : Else-not-within_limits) → sketch_limits c.args.b c.args.m ≡ true
limits c = sym c.within_limits.ensures ∙ c.if-not-within_limits.false

pub packed_length-requires-clause-bits : goal.packed_length-requires-clause-bits
packed_length-requires-clause-bits c = (within _ _ (limits c)).0

pub packed_length-requires-clause-n_bound : goal.packed_length-requires-clause-n_bound
packed_length-requires-clause-n_bound c = (within _ _ (limits c)).1

pub all_packable-requires-clause-bits : goal.all_packable-requires-clause-bits
all_packable-requires-clause-bits c = let limited = within _ _ (limits (goal.at.all_packable-requires-clause-bits c).Else-not-within_limits) in limited.0

pub all_packable-requires-clause-n_bound : goal.all_packable-requires-clause-n_bound
all_packable-requires-clause-n_bound c = let limited = within _ _ (limits (goal.at.all_packable-requires-clause-n_bound c).Else-not-within_limits) in limited.1

pub unpack_into-requires-clause-bits : goal.unpack_into-requires-clause-bits
unpack_into-requires-clause-bits c = let at-bytes = c in let limited = within _ _ (limits (goal.at.unpack_into-requires-clause-bits at-bytes).Else-not-within_limits) in limited.0

pub unpack_into-requires-clause-n_bound : goal.unpack_into-requires-clause-n_bound
unpack_into-requires-clause-n_bound c = let at-bytes = c in let limited = within _ _ (limits (goal.at.unpack_into-requires-clause-n_bound at-bytes).Else-not-within_limits) in limited.1
