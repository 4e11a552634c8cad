use mathlib.Core.Path.{◌≡◌}
use Rattle.rights.specs.Entries.{class_renewed}
use Rattle.rights.proofs.entries.renew_class.Given as goal

abbrev pub invariant-loop-reader : goal.invariant-loop-reader
invariant-loop-reader l = l.ws ≡ class_renewed l.initial.ws l.group l.class l.reader
