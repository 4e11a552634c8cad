-- A table that shows an opening has numbers that pass 4.
use mathlib.Core.Path.{sym, ◌∙◌}
use Rattle.layout.proofs.Openings.{shown, shows}
use Rattle.settings.proofs.opening.Goals as goal

pub new-requires : goal.new-requires
new-requires c =
    let ws = c.args.settings.now in
    rw c.numbers.ensures
    (shown ws _ (shows ws c.if-settings-lt-LENGTH.false (sym c.shows_opening.ensures ∙ c.if-not-shows_opening.false))).limits
