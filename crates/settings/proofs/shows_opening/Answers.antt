-- The function `shows_opening` is the definition `shows_opening`.
use native.Mathlib.Omega.{arith}
use Rattle.settings.proofs.Tests.{shows-tests}
use Rattle.settings.proofs.shows_opening.Goals as goal

pub returns : goal.returns
returns c =
    rw (c.limits.ensures, c.thresholds_fit.ensures, c.numbers.ensures)
    (shows-tests c.args.settings.now (omega arith))
