-- `write_chain` stores the chain words. The invariant: with the rest stored too, the table is as it is to be.
use native.Mathlib.Nat.{zero-add}
use mathlib.Core.Path.{sym, ◌∙◌}
use Rattle.fresh_tables.proofs.Runs.{rest-first, rest-next, rest-none}
use Rattle.fresh_tables.proofs.fresh.write_chain.Goals as goal

pub loop-x-init : goal.loop-x-init
loop-x-init c = rest-first _ _ _ _

pub loop-x-preserved : goal.loop-x-preserved
loop-x-preserved c = rest-next _ _ _ _ _ _ _ c.loop-x-test.true (sym (zero-add _)) c.chain_word.ensures ∙ c.loop-x.invariant

pub returns : goal.returns
returns c = sym (rest-none _ _ _ _ _ c.loop-x-test.false) ∙ c.loop-x.invariant
