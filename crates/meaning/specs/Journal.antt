-- The journal of document 01: its commands, the questions 1 to 3 of a command's form, and the lines that the program writes.
use Rattle.std.specs.Prelude.{ℕ, zero, suc, ◌+◌, ◌*◌, ◌/◌, ◌%◌, Bool, cond, not, List, [], ◌∷◌, ◌++◌, ltb, leb, eqb, length, get_or, take, replicate, drop as skip}
use Rattle.meaning.specs.Lists.{any}
use Rattle.meaning.specs.Refusal.{ask, first_no}
use Rattle.meaning.specs.Output.{Output}
use Rattle.meaning.specs.Rights.{Change, join, leave, grant, revoke}
use Rattle.meaning.specs.Ledger.{settings_given, search, Call, opening, add, drop, change, reading}

-- ---- commands

-- a command with its operands, in their order
pub data Command : Type 0 where
  -- I: b, m, q, threshold
  opens : ℕ → ℕ → ℕ → ℕ → Command
  -- A: page, class, sketch
  adds : ℕ → ℕ → List ℕ → Command
  -- D: page
  drops : ℕ → Command
  -- J and L: reader, group; G and R: group, class
  changes : Change → Command
  -- S: reader, radius, query
  searches : ℕ → ℕ → List ℕ → Command

-- the call that a command makes, on tables for so many pages and nodes and with these lists for what a search finds: a threshold is used at all levels
unfoldable pub call_of : (pages nodes : ℕ) → Output → Command → Call
call_of pages nodes output (opens b m q t) = opening (settings_given b m q pages nodes (replicate 64 t))
call_of pages nodes output (adds p c x) = add p c x
call_of pages nodes output (drops p) = drop p
call_of pages nodes output (changes c) = change c
call_of pages nodes output (searches r d x) = reading (search r d x output)

-- one thing for a search, by its reader, and another for every other command
abbrev pub if_search : {A : Type 0} → Command → (ℕ → A) → A → A
if_search (opens b m q t) f other = other
if_search (adds p c x) f other = other
if_search (drops p) f other = other
if_search (changes c) f other = other
if_search (searches r d x) f other = f r

-- ---- the table of commands

abbrev pub byte_at : List ℕ → ℕ → ℕ
byte_at xs k = get_or xs k 0

-- two bytes, the low one first
unfoldable pub word_at : List ℕ → ℕ → ℕ
word_at xs k = byte_at xs k + 256 * byte_at xs (k + 1)

-- how an operand stands: in one byte, in two, or as the m symbols of a sketch
pub data Width : Type 0 where
  byte word symbols : Width

abbrev pub bytes_of : ℕ → Width → ℕ
bytes_of m byte = 1
bytes_of m word = 2
bytes_of m symbols = m

-- where operands that begin at an offset end
abbrev pub end_of : ℕ → List Width → ℕ → ℕ
end_of m [] at = at
end_of m (w ∷ ws) at = end_of m ws (at + bytes_of m w)

-- operands of these widths, and those that begin at an offset
abbrev pub Operand : Width → Type 0
Operand byte = ℕ
Operand word = ℕ
Operand symbols = List ℕ

abbrev pub Operands : List Width → Type 0
Operands [] = Unit {0}
Operands (w ∷ ws) = Operand w × Operands ws

abbrev pub operand_at : (m : ℕ) (xs : List ℕ) (w : Width) → ℕ → Operand w
operand_at m xs byte at = byte_at xs at
operand_at m xs word at = word_at xs at
operand_at m xs symbols at = take m (skip at xs)

abbrev pub operands_at : (m : ℕ) (xs : List ℕ) (ws : List Width) → ℕ → Operands ws
operands_at m xs [] at = tt
operands_at m xs (w ∷ ws) at = (operand_at m xs w at, operands_at m xs ws (at + bytes_of m w))

-- a command's byte, the widths of its operands in their order, and the command that they make
pub record Entry : Type 0 where
  pub letter : ℕ
  pub widths : List Width
  pub make : Operands widths → Command

-- I, A, D, S, J, L, G; and R
unfoldable pub entries : List Entry
entries =
    record { letter = 73; widths = byte ∷ byte ∷ byte ∷ word ∷ []; make = λ o. opens o.0 o.1.0 o.1.1.0 o.1.1.1.0 }
    ∷ record { letter = 65; widths = word ∷ byte ∷ symbols ∷ []; make = λ o. adds o.0 o.1.0 o.1.1.0 }
    ∷ record { letter = 68; widths = word ∷ []; make = λ o. drops o.0 }
    ∷ record { letter = 83; widths = byte ∷ byte ∷ symbols ∷ []; make = λ o. searches o.0 o.1.0 o.1.1.0 }
    ∷ record { letter = 74; widths = byte ∷ byte ∷ []; make = λ o. changes (join o.0 o.1.0) }
    ∷ record { letter = 76; widths = byte ∷ byte ∷ []; make = λ o. changes (leave o.0 o.1.0) }
    ∷ record { letter = 71; widths = byte ∷ byte ∷ []; make = λ o. changes (grant o.0 o.1.0) }
    ∷ []

abbrev pub last_entry : Entry
last_entry = record { letter = 82; widths = byte ∷ byte ∷ []; make = λ o. changes (revoke o.0 o.1.0) }

-- what the entry of a command byte gives, the last one where no other is its
abbrev pub lookup : {A : Type 0} → (Entry → A) → List Entry → ℕ → A
lookup f [] c = f last_entry
lookup f (e ∷ es) c = cond (eqb c e.letter) (f e) (lookup f es c)

-- ---- form

unfoldable pub known : ℕ → Bool
known c = any (λ e. eqb c e.letter) (last_entry ∷ entries)

-- how many bytes the operands have: m, command byte
unfoldable pub operand_bytes : ℕ → ℕ → ℕ
operand_bytes m = lookup (λ e. end_of m e.widths 0) entries

-- is it I exactly where it is the first command? The mark is 0 for a later command
unfoldable pub in_place : ℕ → ℕ → Bool
in_place mark c = cond (eqb mark 0) (not (eqb c 73)) (eqb c 73)

-- 1 to 3 of the command at the beginning of the bytes, with m symbols a sketch; no bytes give 1
unfoldable pub form : ℕ → ℕ → List ℕ → ℕ
form m mark [] = 1
form m mark (c ∷ operands) =
    first_no (
    ask 1 (known c)
    ∷ ask 2 (in_place mark c)
    ∷ ask 3 (leb (operand_bytes m c) (length operands))
    ∷ [])

-- ---- reading

-- the command at the beginning of the bytes: its byte is at 0
unfoldable pub command : ℕ → List ℕ → Command
command m xs = lookup (λ e. e.make (operands_at m xs e.widths 1)) entries (byte_at xs 0)

-- how many bytes it takes
unfoldable pub taken : ℕ → List ℕ → ℕ
taken m xs = 1 + operand_bytes m (byte_at xs 0)

-- what stands at an offset: nothing more; a command that 1 to 3 refuse, where the offset stays; or a command, and the offset behind it
pub data Next : Type 0 where
  ended : Next
  refused : ℕ → Next
  command-to : Command → ℕ → Next

-- the first command stands at 0
unfoldable pub mark_at : ℕ → ℕ
mark_at at = cond (eqb at 0) 1 0

unfoldable pub form_at : ℕ → List ℕ → ℕ → ℕ
form_at m bytes at = form m (mark_at at) (skip at bytes)

-- with m symbols a sketch, the bytes of the journal, and the offset reached
unfoldable pub next : ℕ → List ℕ → ℕ → Next
next m bytes at =
    cond (ltb at (length bytes)) (
    cond (eqb (form_at m bytes at) 0) (command-to (command m (skip at bytes)) (at + taken m (skip at bytes)))
    (refused (form_at m bytes at)))
    ended

-- ---- what the program writes, as bytes

-- the decimal digits of a number that has at most so many
unfoldable pub digits : ℕ → ℕ → List ℕ
digits zero n = []
digits (suc places) n = cond (ltb n 10) ((48 + n) ∷ []) (digits places (n / 10) ++ ((48 + n % 10) ∷ []))

-- n + 1 digits are always enough
unfoldable pub decimal : ℕ → List ℕ
decimal n = digits (suc n) n

-- a number, with a blank before it
abbrev pub field : ℕ → List ℕ
field n = 32 ∷ decimal n

-- numbers, and the end of the line
unfoldable pub fields : List ℕ → List ℕ
fields [] = 10 ∷ []
fields (n ∷ ns) = field n ++ fields ns

-- hits, a blank before each, and the end of the line: page, colon, distance
unfoldable pub hits : List ℕ → List ℕ → List ℕ
hits [] ds = 10 ∷ []
hits (p ∷ ps) [] = 10 ∷ []
hits (p ∷ ps) (d ∷ ds) = field p ++ (58 ∷ (decimal d ++ hits ps ds))

-- S, reader, count, then the hits
unfoldable pub search_line : ℕ → Output → List ℕ
search_line reader o = 83 ∷ (field reader ++ (field (length o.pages) ++ hits o.pages o.distances))

-- E, the offset of the refused command, the number
unfoldable pub refusal_line : ℕ → ℕ → List ℕ
refusal_line at number = 69 ∷ fields (at ∷ number ∷ [])

-- Z, the count of bytes taken
unfoldable pub last_line : ℕ → List ℕ
last_line count = 90 ∷ fields (count ∷ [])
