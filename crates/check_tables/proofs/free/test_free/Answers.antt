-- The function `test_free` is the definition `test_free`.
use native.Mathlib.Omega.{arith}
use borrow.Author.Rules.{rules}
use Rattle.check_tables.proofs.FreeSteps.{chain-end, chain-broken, chain-used, chain_next}
use Rattle.check_tables.proofs.free.test_free.Goals as goal

pub returns-then-link-eq0 : goal.returns-then-link-eq0
returns-then-link-eq0 c = search chain-end

pub returns-then-x-cap : goal.returns-then-x-cap
returns-then-x-cap c = search chain-broken

pub returns-then-not-is_free : goal.returns-then-not-is_free
returns-then-not-is_free c = search chain-used

pub loop-left-preserved : goal.loop-left-preserved
loop-left-preserved c = (search chain_next, omega arith, search rules)
