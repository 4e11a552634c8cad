-- `words::lowest_bit` meets its contract.
use Rattle.words.proofs.Machine.{lowest-found}
use Rattle.words.proofs.lowest_bit.Goals as goal

pub returns : goal.returns
returns c = lowest-found c.args.w
