-- The changes of the register that the code's ones stand for.
use Rattle.meaning.specs.Rights.{join, leave, grant, revoke, Change as PaperChange}
use Rattle.rights.specs.declared.Change.{Change}
use Rattle.rights.specs.declared.Change.TheVariants.{Join, Leave, Grant, Revoke}

unfoldable pub change_meant : Change → PaperChange
change_meant (Join r g) = join r g
change_meant (Leave r g) = leave r g
change_meant (Grant g c) = grant g c
change_meant (Revoke g c) = revoke g c
