use Rattle.walk_steps.specs.Walks.{given_of}
use Rattle.walk.specs.Batch.{from}
use Rattle.walk.proofs.Going.{Going}
use Rattle.walk.proofs.batch.next.Given as goal

abbrev pub invariant-loop-n : goal.invariant-loop-n
invariant-loop-n l = Going (given_of l.walk) (from (given_of l.walk) l.initial.stack l.initial.place) l.initial.place.steps l.waiting l.n l.place l.stack

abbrev pub decreases-loop-n : goal.decreases-loop-n
decreases-loop-n l = l.place.steps
