-- `all_current` tests the entries in turn. The invariant: those passed are current.
use native.Mathlib.Omega.{arith}
use mathlib.Core.Path.{sym, ◌∙◌}
use Rattle.meaning.proofs.Lists.{all-upto, upto-not}
use Rattle.rights.specs.Entries.{is_current, all_current}
use Rattle.rights.proofs.current.all_current.Goals as goal

pub returns-then-not-is_current : goal.returns-then-not-is_current
unfolding all_current
returns-then-not-is_current c =
    let at = c.loop-reader in
    sym (upto-not (is_current _) 256 at.reader (omega arith) (sym c.is_current.ensures ∙ c.if-not-is_current.true))

pub returns : goal.returns
unfolding all_current
returns c =
    let at = c.loop-reader in
    sym (all-upto (is_current _) 256 (λ r h. at.invariant r (omega arith)))
