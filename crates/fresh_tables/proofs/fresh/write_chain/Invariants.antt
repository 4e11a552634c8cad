use mathlib.Core.Path.{◌≡◌}
use mathlib.Core.List.{map}
use lib.Seq.{sets}
use Rattle.layout.specs.Headers.{given_by}
use Rattle.meaning.specs.Lists.{upto}
use Rattle.layout.specs.Header.{bare}
use Rattle.promises.specs.Answers.{fresh_chain}
use Rattle.fresh_tables.proofs.Runs.{rest}
use Rattle.fresh_tables.proofs.fresh.write_chain.Given as goal

abbrev pub invariant-loop-x : goal.invariant-loop-x
invariant-loop-x l = rest (fresh_chain (given_by l.h)) 0 l.h.nodes l.nodes l.x ≡ sets l.initial.nodes 0 (map (fresh_chain (given_by l.h)) (upto l.h.nodes))
