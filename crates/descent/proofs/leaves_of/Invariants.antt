use Rattle.descent.specs.Cursor.{AllLeaves}
use Rattle.descent.proofs.leaves_of.Given as goal

abbrev pub invariant-loop-i : goal.invariant-loop-i
invariant-loop-i g l = AllLeaves g.row.N l.cursors l.i l.links
