-- The table that `new` makes is the definition `distance_table`: one computed test over the whole table.
use mathlib.Core.Path.{refl}
use Rattle.meaning.specs.Lists.{count, upto, from}
use Rattle.meaning.specs.Sketch.{byte_distance, group, per_byte}
use Rattle.distances.specs.Table.{distance_table}
use Rattle.distances.proofs.Distances.new.Goals as goal

pub invariant_of-result : goal.invariant_of-result
unfolding distance_table byte_distance count upto from group per_byte
invariant_of-result c = record { is_table = refl }
