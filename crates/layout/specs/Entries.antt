-- A reader's entry in the settings table: two words.
use Rattle.std.specs.Prelude.{ℕ, ◌+◌, ◌*◌, List, get_or, set}
use Rattle.layout.specs.Settings.{entries_at}

-- where they stand
abbrev pub low_at : ℕ → ℕ
low_at reader = entries_at + 2 * reader

abbrev pub high_at : ℕ → ℕ
high_at reader = entries_at + 2 * reader + 1

-- the word for classes 0 to 31, and that for 32 to 63
unfoldable pub low_of : List ℕ → ℕ → ℕ
low_of ws reader = get_or ws (low_at reader) 0

unfoldable pub high_of : List ℕ → ℕ → ℕ
high_of ws reader = get_or ws (high_at reader) 0

-- the table with another entry for the reader
unfoldable pub with_entry : List ℕ → ℕ → ℕ → ℕ → List ℕ
with_entry ws reader low high = set (set ws (low_at reader) low) (high_at reader) high
