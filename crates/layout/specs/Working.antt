-- The working table: a map of bits, and behind it a map of the words of the first that may hold a bit.
-- The first has a bit for each page, and for an eighth of the nodes at least, so that a check passes over the nodes eight times at most.
use Rattle.std.specs.Prelude.{ℕ, ◌+◌, ◌/◌, max}
use Rattle.meaning.specs.Ledger.{Settings}

unfoldable pub map_words : Settings → ℕ
map_words s = (max s.pages ((s.nodes + 7) / 8) + 31) / 32

-- how many words the second map has
unfoldable pub summary_words : Settings → ℕ
summary_words s = (map_words s + 31) / 32
