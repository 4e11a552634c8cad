-- `rights::is_open_to` meets its contract, by the law of the entry.
use mathlib.Core.Path.{◌∙◌}
use Rattle.rights.proofs.Open.{is-open-opens}
use Rattle.rights.proofs.is_open_to.Goals as goal

pub returns : goal.returns
returns c =
    let args = c.args in
    c.is_open.ensures ∙ rw c.entry.ensures (is-open-opens args.ws.now args.reader args.class)
