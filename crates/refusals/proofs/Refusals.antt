-- No refusal has the number of an answer.
use Rattle.std.specs.Prelude.{◌≢◌}
use Rattle.std.proofs.Common.{arith}
use Rattle.refusals.specs.Refusals.{number_of}
use Rattle.refusals.specs.declared.Refusal.{Refusal}
use Rattle.refusals.specs.declared.Refusal.TheVariants.{UnknownCommand, MisplacedCommand, MissingOperands, BadSettings, ShortTable, NoOpening, OutOfRange, NoSuchPage, PageState, BadLength, BadSymbol, NoRoom, ShortOutput, Unsound, Blank}

pub not_zero : (r : Refusal) → number_of r ≢ 0
not_zero UnknownCommand = omega arith
not_zero MisplacedCommand = omega arith
not_zero MissingOperands = omega arith
not_zero BadSettings = omega arith
not_zero ShortTable = omega arith
not_zero NoOpening = omega arith
not_zero OutOfRange = omega arith
not_zero NoSuchPage = omega arith
not_zero PageState = omega arith
not_zero BadLength = omega arith
not_zero BadSymbol = omega arith
not_zero NoRoom = omega arith
not_zero (ShortOutput n) = omega arith
not_zero Unsound = omega arith
not_zero Blank = omega arith
