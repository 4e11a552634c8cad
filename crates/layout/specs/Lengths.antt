-- How long each table must be for the settings and capacities of an opening: in words of 32 bits, the sketch table in bytes.
use Rattle.std.specs.Prelude.{ℕ, ◌+◌, ◌*◌}
use Rattle.meaning.specs.Ledger.{Settings}
use Rattle.layout.specs.Nodes.{node_words}
use Rattle.layout.specs.Working.{map_words, summary_words}

unfoldable pub nodes_length : Settings → ℕ
nodes_length s = node_words s.nodes

unfoldable pub pages_length : Settings → ℕ
pages_length s = (2 + s.blocks) * s.pages

unfoldable pub sketches_length : Settings → ℕ
sketches_length s = s.pages * s.symbols

unfoldable pub working_length : Settings → ℕ
working_length s = map_words s + summary_words s
