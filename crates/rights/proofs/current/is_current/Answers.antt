-- `is_current` tests the two words of the entry.
use borrow.Author.Rules.{rules}
use Rattle.rights.proofs.Words.{words-current}
use Rattle.rights.proofs.current.is_current.Goals as goal

pub returns : goal.returns
returns c =
    rw (c.eq.ensures, c.entry.ensures, c.open_classes.ensures) (words-current _ _ (rw (← c.entry.ensures) (search rules)) (rw (← c.open_classes.ensures) (search rules)))
