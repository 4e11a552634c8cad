-- The journal that document 01 works through, read and printed by computation.
use Prim.Native.Nat.{ℕ}
use mathlib.Core.Path.{◌≡◌, refl}
use mathlib.Core.List.{List, [], ◌∷◌}
use Rattle.meaning.specs.Lists.{any}
use Rattle.meaning.specs.Refusal.{first_no}
use Rattle.meaning.specs.Output.{output}
use Rattle.meaning.specs.Rights.{join, grant, revoke}
use Rattle.meaning.specs.Journal.{opens, adds, changes, searches, entries, known, operand_bytes, in_place, form, word_at, command, taken, ended, command-to, mark_at, form_at, next, digits, decimal, fields, hits, search_line, refusal_line, last_line}

-- its 61 bytes
abbrev journal : List ℕ
journal =
    73 ∷ 2 ∷ 4 ∷ 2 ∷ 1 ∷ 0 ∷ 74 ∷ 5 ∷ 1 ∷ 71 ∷ 1 ∷ 3
    ∷ 65 ∷ 7 ∷ 0 ∷ 3 ∷ 0 ∷ 1 ∷ 2 ∷ 3 ∷ 65 ∷ 9 ∷ 0 ∷ 4 ∷ 0 ∷ 1 ∷ 2 ∷ 2 ∷ 65 ∷ 2 ∷ 0 ∷ 3 ∷ 0 ∷ 1 ∷ 0 ∷ 0
    ∷ 83 ∷ 5 ∷ 2 ∷ 0 ∷ 1 ∷ 2 ∷ 3 ∷ 82 ∷ 1 ∷ 3 ∷ 83 ∷ 5 ∷ 2 ∷ 0 ∷ 1 ∷ 2 ∷ 3 ∷ 65 ∷ 88 ∷ 2 ∷ 3 ∷ 0 ∷ 0 ∷ 0 ∷ 0 ∷ []

abbrev zeros : List ℕ
zeros = 0 ∷ 0 ∷ 0 ∷ 0 ∷ []

abbrev query : List ℕ
query = 0 ∷ 1 ∷ 2 ∷ 3 ∷ []

-- its commands, each found at the offset that the one before it gave
pub record WorkedJournal : Type 0 where
  pub at-0 : next 0 journal 0 ≡ command-to (opens 2 4 2 1) 6
  pub at-6 : next 4 journal 6 ≡ command-to (changes (join 5 1)) 9
  pub at_9 : next 4 journal 9 ≡ command-to (changes (grant 1 3)) 12
  pub at-12 : next 4 journal 12 ≡ command-to (adds 7 3 query) 20
  pub at-20 : next 4 journal 20 ≡ command-to (adds 9 4 (0 ∷ 1 ∷ 2 ∷ 2 ∷ [])) 28
  pub at-28 : next 4 journal 28 ≡ command-to (adds 2 3 (0 ∷ 1 ∷ 0 ∷ 0 ∷ [])) 36
  pub at-36 : next 4 journal 36 ≡ command-to (searches 5 2 query) 43
  pub at-43 : next 4 journal 43 ≡ command-to (changes (revoke 1 3)) 46
  pub at-46 : next 4 journal 46 ≡ command-to (searches 5 2 query) 53
  pub at-53 : next 4 journal 53 ≡ command-to (adds 600 3 zeros) 61
  pub at-61 : next 4 journal 61 ≡ ended
  -- its output: S 5 2 7:0 2:2, S 5 0, E 53 8, Z 61
  pub found : search_line 5 (output (7 ∷ 2 ∷ []) (0 ∷ 2 ∷ [])) ≡ 83 ∷ 32 ∷ 53 ∷ 32 ∷ 50 ∷ 32 ∷ 55 ∷ 58 ∷ 48 ∷ 32 ∷ 50 ∷ 58 ∷ 50 ∷ 10 ∷ []
  pub none : search_line 5 (output [] []) ≡ 83 ∷ 32 ∷ 53 ∷ 32 ∷ 48 ∷ 10 ∷ []
  pub too-high : refusal_line 53 8 ≡ 69 ∷ 32 ∷ 53 ∷ 51 ∷ 32 ∷ 56 ∷ 10 ∷ []
  pub last : last_line 61 ≡ 90 ∷ 32 ∷ 54 ∷ 49 ∷ 10 ∷ []
  pub empty : last_line 0 ≡ 90 ∷ 32 ∷ 48 ∷ 10 ∷ []
  -- no bytes, an unknown byte, a later I, a first command that is not I and is cut, a cut D; more bytes than needed are fine
  pub no_bytes : form 4 1 [] ≡ 1
  pub unknown : form 4 0 (66 ∷ 0 ∷ []) ≡ 1
  pub later-opening : form 4 0 (73 ∷ []) ≡ 2
  pub not-opening : form 4 255 (65 ∷ []) ≡ 2
  pub cut : form 4 0 (68 ∷ 7 ∷ []) ≡ 3
  pub whole : form 4 0 (68 ∷ 7 ∷ 0 ∷ 1 ∷ []) ≡ 0

pub worked-journal : WorkedJournal
unfolding any first_no entries known operand_bytes in_place form word_at command taken mark_at form_at next digits decimal fields hits search_line refusal_line last_line
worked-journal = record {
  at-0 = refl;
  at-6 = refl;
  at_9 = refl;
  at-12 = refl;
  at-20 = refl;
  at-28 = refl;
  at-36 = refl;
  at-43 = refl;
  at-46 = refl;
  at-53 = refl;
  at-61 = refl;
  found = refl;
  none = refl;
  too-high = refl;
  last = refl;
  empty = refl;
  no_bytes = refl;
  unknown = refl;
  later-opening = refl;
  not-opening = refl;
  cut = refl;
  whole = refl;
}
