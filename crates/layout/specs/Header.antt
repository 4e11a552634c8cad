-- What a call reads off the settings table: the header of an opening, or the number of the question that fails.
use Rattle.std.specs.Prelude.{ℕ, Bool, true, false, ◌&&◌, List, [], ◌∷◌, leb, length, Result, Ok, Err}
use Rattle.meaning.specs.Refusal.{Question, ask}
use Rattle.meaning.specs.Ledger.{Settings, settings_given}
use Rattle.layout.specs.Settings.{settings_length, settings_of, shows_opening}
use Rattle.layout.specs.declared.Numbers.{Numbers}

-- b, m, q and the capacities
abbrev pub header_of : Settings → Numbers
header_of s = record { b = s.bits; m = s.symbols; q = s.blocks; pages = s.pages; nodes = s.nodes }

-- the settings of a header with thresholds
abbrev pub with_thresholds : Numbers → List ℕ → Settings
with_thresholds h ts = settings_given h.b h.m h.q h.pages h.nodes ts

-- the settings of a header without: no length hangs on the thresholds
abbrev pub bare : Numbers → Settings
bare h = with_thresholds h []

-- one of two answers, by a test
abbrev pub pick : Bool → Result Numbers ℕ → Result Numbers ℕ → Result Numbers ℕ
pick true a b = a
pick false a b = b

-- 5 and 6, as far as the settings table goes
unfoldable pub opening_of : List ℕ → Result Numbers ℕ
opening_of ws =
    pick (leb settings_length (length ws))
    (pick (shows_opening ws) (Ok (header_of (settings_of ws))) (Err 6))
    (Err 5)

-- 5 and 6 ahead of the other questions, where `fit` says that each other table of the call is long enough
abbrev pub tables_first : List ℕ → Bool → List Question → List Question
tables_first ws fit qs = ask 5 (leb settings_length (length ws)) ∷ ask 6 (shows_opening ws && fit) ∷ qs
