-- The function `find_place` is the definition `find_place`: each turn takes one step of the definition.
use native.Mathlib.Omega.{arith}
use Rattle.children.proofs.Steps.{place_out, place_none, place-broken, place-on, place_found, place-past}
use Rattle.children.proofs.place.find_place.Goals as goal

pub loop-preserved : goal.loop-preserved
loop-preserved c = (search (place-on, arith), omega arith)

pub returns-clause-value : goal.returns-clause-value
returns-clause-value c = search (place_out, arith)

pub returns-then-link-eq0-clause-value : goal.returns-then-link-eq0-clause-value
returns-then-link-eq0-clause-value c = search (place_none, arith)

pub returns-then-cap-link-clause-value : goal.returns-then-cap-link-clause-value
returns-then-cap-link-clause-value c = search (place-broken, arith)

pub returns-then-b-byte-2-clause-value : goal.returns-then-b-byte-2-clause-value
returns-then-b-byte-2-clause-value c = search (place_found, arith)

pub returns-else-b-byte-clause-value : goal.returns-else-b-byte-clause-value
returns-else-b-byte-clause-value c = search (place-past, arith)
