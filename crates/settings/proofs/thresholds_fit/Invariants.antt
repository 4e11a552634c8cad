use mathlib.Core.Path.{◌≡◌}
use lib.ListN.{take}
use Rattle.meaning.specs.Lists.{all}
use Rattle.layout.proofs.Limits.{short}
use Rattle.settings.proofs.thresholds_fit.Given as goal

abbrev pub invariant-loop-t : goal.invariant-loop-t
invariant-loop-t l = short l.seen ≡ all short (take l.t-index l.t-items)
