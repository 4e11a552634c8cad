-- `words::set` meets its contract.
use Rattle.words.proofs.Machine.{flag-set, flag_cleared}
use Rattle.words.proofs.set.Goals as goal

pub returns-then-on : goal.returns-then-on
returns-then-on c = rw c.if-on.true (flag-set c.args.ws.now c.args.base c.args.n)

pub returns-else-on : goal.returns-else-on
returns-else-on c = rw c.if-on.false (flag_cleared c.args.ws.now c.args.base c.args.n)
