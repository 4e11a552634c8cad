-- `write_header` is `with_header`: six stores, then the thresholds.
use native.Mathlib.Omega.{arith}
use mathlib.Core.Path.{◌∙◌}
use Rattle.layout.specs.Headers.{numbers}
use Rattle.settings.proofs.Written.{header-written}
use Rattle.settings.proofs.write_header.Goals as goal

pub returns : goal.returns
returns c =
    let a = c.args in
    c.write_thresholds.ensures
    ∙ header-written a.settings.now (numbers a.h) a.thresholds.now (omega arith) (omega arith)
