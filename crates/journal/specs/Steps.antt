-- What the code's answers say: each case of Command and Step as the paper has it, and the answer at an offset.
use Rattle.std.specs.Prelude.{ℕ, ◌+◌, ◌≡◌, cond, List, ltb, eqb, length, take, drop}
use Rattle.meaning.specs.Journal.{opens, adds, drops, changes, searches, byte_at, word_at, taken, Next, ended, refused, command-to, form_at, next}
use Rattle.meaning.specs.Journal.{Command as PaperCommand}
use Rattle.refusals.specs.declared.Refusal.{Refusal}
use Rattle.refusals.specs.declared.Refusal.TheVariants.{UnknownCommand, MisplacedCommand, MissingOperands}
use Rattle.refusals.specs.Refusals.{number_of}
use Rattle.rights.specs.declared.Change.{Change}
use Rattle.rights.specs.declared.Change.TheVariants.{Join, Leave, Grant, Revoke}
use Rattle.rights.specs.Changes.{change_meant}
use Rattle.journal.specs.declared.commands.Command.{Command}
use Rattle.journal.specs.declared.commands.Command.TheVariants.{Open, Add, Drop, Register, Search}
use Rattle.journal.specs.declared.commands.Step.{Step}
use Rattle.journal.specs.declared.commands.Step.TheVariants.{Taken, Refused, End}

-- the command that the code's one stands for, its m symbols taken from the journal's bytes
unfoldable pub meant : ℕ → List ℕ → Command → PaperCommand
meant m bytes (Open b n q t) = opens b n q t
meant m bytes (Add p c s) = adds p c (take m (drop s bytes))
meant m bytes (Drop p) = drops p
meant m bytes (Register c) = changes (change_meant c)
meant m bytes (Search r d s) = searches r d (take m (drop s bytes))

-- where the m symbols of a command end; 0 for a command without symbols
unfoldable pub symbols_end : ℕ → Command → ℕ
symbols_end m (Add p c s) = s + m
symbols_end m (Search r d s) = s + m
symbols_end m (Open b n q t) = 0
symbols_end m (Drop p) = 0
symbols_end m (Register c) = 0

-- what a step says
unfoldable pub told : ℕ → List ℕ → Step Refusal → Next
told m bytes (Taken c to) = command-to (meant m bytes c) to
told m bytes (Refused r) = refused (number_of r)
told m bytes End = ended

-- ---- the answers themselves

-- J, L, G or R with its two operands
unfoldable pub change_of : ℕ → ℕ → ℕ → Change
change_of c x y = cond (eqb c 74) (Join x y) (cond (eqb c 76) (Leave x y) (cond (eqb c 71) (Grant x y) (Revoke x y)))

-- the command whose bytes begin own, which stands at an offset
unfoldable pub command_of : List ℕ → ℕ → Command
command_of own at =
    cond (eqb (byte_at own 0) 73) (Open (byte_at own 1) (byte_at own 2) (byte_at own 3) (word_at own 4)) (
    cond (eqb (byte_at own 0) 65) (Add (word_at own 1) (byte_at own 3) (at + 4)) (
    cond (eqb (byte_at own 0) 68) (Drop (word_at own 1)) (
    cond (eqb (byte_at own 0) 83) (Search (byte_at own 1) (byte_at own 2) (at + 3)) (
    Register (change_of (byte_at own 0) (byte_at own 1) (byte_at own 2))))))

unfoldable pub command_at : List ℕ → ℕ → Command
command_at bytes at = command_of (drop at bytes) at

-- the refusal of a form, by its number
abbrev pub refusal_of : ℕ → Refusal
refusal_of n = cond (eqb n 1) UnknownCommand (cond (eqb n 2) MisplacedCommand MissingOperands)

unfoldable pub step_at : ℕ → List ℕ → ℕ → Step Refusal
step_at m bytes at =
    cond (ltb at (length bytes)) (
    cond (eqb (form_at m bytes at) 0) (Taken (command_at bytes at) (at + taken m (drop at bytes)))
    (Refused (refusal_of (form_at m bytes at))))
    End

-- what is promised of a step: it says what the paper has there, and its symbols stand in their place
pub record Stepped (m : ℕ) (bytes : List ℕ) (at : ℕ) (s : Step Refusal) : Type 0 where
  pub told-right : told m bytes s ≡ next m bytes at
  pub in_place : s ≡ step_at m bytes at

-- the offset after a step, however a refusal is told
unfoldable pub reached_by : {R : Type 0} → Step R → ℕ → ℕ
reached_by (Taken c to) at = to
reached_by (Refused r) at = at
reached_by End at = at
