use Rattle.descent.proofs.Rounds.{Round, Paid}
use Rattle.descent.proofs.descend.Given as goal

abbrev pub invariant-loop-j : goal.invariant-loop-j
invariant-loop-j l = Round l.nodes l.cap l.bytes l.n l.initial.cursors l.cursors l.j l.more

abbrev pub invariant-loop-more : goal.invariant-loop-more
invariant-loop-more l = Paid l.nodes l.cap l.bytes l.n l.initial.cursors l.cursors l.budget l.left l.more

abbrev pub decreases-loop-more : goal.decreases-loop-more
decreases-loop-more l = l.left
