-- `words::without_lowest` meets its contract.
use Rattle.words.proofs.Machine.{lowest-cut}
use Rattle.words.proofs.without_lowest.Goals as goal

pub returns : goal.returns
returns c = lowest-cut c.args.w c.requires c.ranges.w.fits
