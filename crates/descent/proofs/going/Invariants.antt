use mathlib.Core.Path.{◌≡◌}
use Rattle.descent.specs.Cursor.{going}
use Rattle.descent.proofs.going.Given as goal

abbrev pub invariant-loop-i : goal.invariant-loop-i
invariant-loop-i l = l.count ≡ going l.cursors l.i
