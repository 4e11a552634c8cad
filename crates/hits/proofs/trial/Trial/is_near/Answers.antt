-- `is_near` asks the stored signature, where signatures tell pages apart.
use mathlib.Core.Path.{ap}
use Rattle.layout.specs.Headers.{numbers}
use Rattle.hits.specs.Trials.{tried}
use Rattle.hits.proofs.Hit.{near-all, page-inside, telling-none}
use Rattle.hits.proofs.trial.Trial.is_near.Goals as goal

pub returns-in_default : goal.returns-in_default
returns-in_default c = near-all (numbers c.args.self.now.probe.header) _ _ _ _ (telling-none (numbers c.args.self.now.probe.header) c.args.self.now.query.now c.args.self.now.probe.radius _ (ap (λ r. r.filter) c.args.self.now.prepared) c.in_default.is)

pub signature_word-stored-requires : goal.signature_word-stored-requires
signature_word-stored-requires c = page-inside (tried c.args.self.now) _ c.requires c.args.self.now.fitting
