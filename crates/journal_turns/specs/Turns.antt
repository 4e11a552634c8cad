-- A turn of the program: what stands at the offset is read and, where it is a command, carried out on the tables.
use Rattle.std.specs.Prelude.{ℕ, ◌≡◌, Bool, false, cond, not, List, [], eqb}
-- passed on, for the program's contracts
use Rattle.meaning.specs.Output.{Output}
use Rattle.meaning.specs.Journal.{Command, next, ended, refused, command-to, refusal_line}
use Rattle.promises.specs.Tables.{Tables}
use Rattle.promises.specs.Relation.{Answer, Promised}
use Rattle.journal_answers.specs.Answers.{made}
use Rattle.journal_answers.specs.Lines.{symbols_after, line_of}
use Rattle.journal_calls.specs.Commands.{found_after}

-- after 4 the program stops; 1 to 3 are no call's
unfoldable pub goes_on : ℕ → Bool
goes_on number = not (eqb number 4)

-- where the program stands: its tables, the two lists of searches, the offset reached, and m
pub record State : Type 0 where
  pub tables : Tables
  pub found : Output
  pub at : ℕ
  pub symbols : ℕ

abbrev pub state : Tables → Output → ℕ → ℕ → State
state T found at m = record { tables = T; found = found; at = at; symbols = m }

-- it stops where it stands, and writes this line
pub record Stopped (s : State) (written line : List ℕ) (going : Bool) (s' : State) : Type 0 where
  pub wrote : line ≡ written
  pub stops : going ≡ false
  pub stays : s' ≡ s

-- it carries out a command, behind which the offset is `to`: the call that the command makes gives the answer a
pub record Carried (s : State) (c : Command) (to : ℕ) (a : Answer) (line : List ℕ) (going : Bool) (s' : State) : Type 0 where
  pub promised : Promised (made s.found c) s.tables a s'.tables
  pub output : s'.found ≡ found_after c a.output s.found
  pub wrote : line ≡ line_of s.at c a
  pub goes : going ≡ goes_on a.number
  pub reached : s'.at ≡ cond (goes_on a.number) to s.at
  pub counts : s'.symbols ≡ symbols_after c s.symbols

-- a turn over the bytes of a journal, by what stands at the offset: the line written, whether the program goes on, and where it then stands
pub data Turned (bytes : List ℕ) (s : State) (line : List ℕ) (going : Bool) (s' : State) : Type 0 where
  ends : next s.symbols bytes s.at ≡ ended → Stopped s [] line going s' → Turned bytes s line going s'
  -- 1 to 3: no call
  refuses : (n : ℕ) → next s.symbols bytes s.at ≡ refused n → Stopped s (refusal_line s.at n) line going s' → Turned bytes s line going s'
  carries : (c : Command) (to : ℕ) (a : Answer) → next s.symbols bytes s.at ≡ command-to c to → Carried s c to a line going s'
      → Turned bytes s line going s'
