use Rattle.layout.proofs.Parts.{Copied}
use Rattle.settings.proofs.write_thresholds.Given as goal

abbrev pub invariant-loop-k : goal.invariant-loop-k
invariant-loop-k l = Copied l.initial.settings 6 l.thresholds l.k l.settings
