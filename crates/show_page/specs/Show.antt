-- What a show finds: its number, and the place of the row in the sketch table.
use Rattle.std.specs.Prelude.{ℕ, [], Result, Ok, Err}
use Rattle.meaning.specs.Ledger.{show, reading}
use Rattle.promises.specs.Tables.{Tables}
use Rattle.promises.specs.Answers.{number}
use Rattle.promises.specs.Readings.{start_shown, length_shown}
use Rattle.refusals.specs.Refusals.{number_of}
use Rattle.refusals.specs.declared.Refusal.{Refusal}
use Rattle.show_page.specs.declared.show.Row.{Row}

-- a refusal has the place of no bytes at the table's start
pub record Place : Type 0 where
  pub number : ℕ
  pub start : ℕ
  pub length : ℕ

abbrev pub no_row : ℕ → Place
no_row n = record { number = n; start = 0; length = 0 }

unfoldable pub place_of : Tables → ℕ → ℕ → Place
place_of T reader p = record { number = number T [] (reading (show reader p)); start = start_shown T reader p; length = length_shown T reader p }

-- what an answer of the code says
abbrev pub found : Result Row Refusal → Place
found (Ok row) = record { number = 0; start = row.start; length = row.length }
found (Err r) = no_row (number_of r)
