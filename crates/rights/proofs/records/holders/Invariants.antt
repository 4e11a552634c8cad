use mathlib.Core.Path.{◌≡◌}
use Rattle.rights.specs.Holders.{holders}
use Rattle.rights.proofs.records.holders.Given as goal

abbrev pub invariant-loop-group : goal.invariant-loop-group
invariant-loop-group l = l.groups ≡ holders l.ws l.class l.group
