-- The numbers of the questions, by the refusals that stand for them; and what an answer says.
use Rattle.std.specs.Prelude.{ℕ, Bool, false, Result, Ok, Err}
use Rattle.refusals.specs.declared.Refusal.{Refusal}
use Rattle.refusals.specs.declared.Refusal.TheVariants.{UnknownCommand, MisplacedCommand, MissingOperands, BadSettings, ShortTable, NoOpening, OutOfRange, NoSuchPage, PageState, BadLength, BadSymbol, NoRoom, ShortOutput, Unsound, Blank}

-- the number of the question that says no
abbrev pub number_of : Refusal → ℕ
number_of UnknownCommand = 1
number_of MisplacedCommand = 2
number_of MissingOperands = 3
number_of BadSettings = 4
number_of ShortTable = 5
number_of NoOpening = 6
number_of OutOfRange = 7
number_of NoSuchPage = 8
number_of PageState = 9
number_of BadLength = 10
number_of BadSymbol = 11
number_of NoRoom = 12
number_of (ShortOutput n) = 13
number_of Unsound = 14
number_of Blank = 15

-- the length that 13 says is needed; 0 with any other
abbrev pub needed_of : Refusal → ℕ
needed_of UnknownCommand = 0
needed_of MisplacedCommand = 0
needed_of MissingOperands = 0
needed_of BadSettings = 0
needed_of ShortTable = 0
needed_of NoOpening = 0
needed_of OutOfRange = 0
needed_of NoSuchPage = 0
needed_of PageState = 0
needed_of BadLength = 0
needed_of BadSymbol = 0
needed_of NoRoom = 0
needed_of (ShortOutput n) = n
needed_of Unsound = 0
needed_of Blank = 0

-- ---- what an answer says

-- the number of the refusal, or 0
abbrev pub answer_number : {A : Type 0} → Result A Refusal → ℕ
answer_number (Ok a) = 0
answer_number (Err r) = number_of r

-- the value, or the length that is needed
abbrev pub answer_value : Result ℕ Refusal → ℕ
answer_value (Ok n) = n
answer_value (Err r) = needed_of r

-- the answer with the number in place of the refusal
abbrev pub numbered : {A : Type 0} → Result A Refusal → Result A ℕ
numbered (Ok a) = Ok a
numbered (Err r) = Err (number_of r)

-- yes or no; refused, no
abbrev pub says_yes : Result Bool Refusal → Bool
says_yes (Ok t) = t
says_yes (Err r) = false
