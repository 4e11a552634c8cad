use Prim.Native.Nat.{ℕ, ◌<◌}
use mathlib.Core.Path.{◌≡◌}
use mathlib.Core.Bool.{true}
use Rattle.rights.specs.Entries.{is_current}
use Rattle.rights.proofs.current.all_current.Given as goal

abbrev pub invariant-loop-reader : goal.invariant-loop-reader
invariant-loop-reader l = (r : ℕ) → r < l.reader → is_current l.ws r ≡ true
