-- A page is added and dropped again, and neither call is refused: a history in which the tries change.
use Prim.Native.Nat.{ℕ}
use mathlib.Core.Path.{◌≡◌, refl}
use mathlib.Core.List.{List, [], ◌∷◌}
use lib.ListN.{replicate}
use Rattle.layout.specs.Settings.{settings_length}
use Rattle.meaning.specs.Lists.{all, any, sum}
use Rattle.meaning.specs.Refusal.{first_no}
use Rattle.meaning.specs.Sketch.{in_range, blank, per_byte, packed_length, block_length}
use Rattle.meaning.specs.SketchCalls.{sketch_limits}
use Rattle.meaning.specs.Trie.{fresh, add_leaf, insert, nodes}
use Rattle.meaning.specs.Ledger.{Settings, settings_given, Event, opening, add, drop, accept, step, ledger, with_rows, put_row}
use Rattle.meaning.specs.Forest.{block_bytes, forest, forest_after, each_from, total_nodes}
use Rattle.meaning.specs.Questions.{in_limits, asked, by_ledger}
use Rattle.layout.specs.Lengths.{nodes_length, pages_length, sketches_length, working_length}
use Rattle.layout.specs.Working.{map_words, summary_words}
use Rattle.promises.specs.Tables.{Tables}
use Rattle.promises.specs.Answers.{number, entered, long_for, long_settings, long_nodes, long_pages, long_working}
use Rattle.history.specs.History.{event, History, admitted, judged}
use Rattle.existence.proofs.Exist.{begins, accepted}

-- one page, and the one node that a trie of one block has
s : Settings
s = settings_given 2 4 1 1 1 (replicate 64 1)

held : Tables
held = record { settings = replicate settings_length 9; nodes = replicate 10 8; pages = replicate 3 1; sketches = replicate 4 3; working = replicate 2 7 }

x : List ℕ
x = 0 ∷ 1 ∷ 2 ∷ 3 ∷ []

passes : number held [] (opening s) ≡ 0
unfolding s held number entered long_settings long_for long_nodes long_pages long_working nodes_length pages_length sketches_length working_length map_words summary_words in_limits sketch_limits asked first_no all
passes = refl

opened : List Event
opened = event (opening s) 0 ∷ []

added : List Event
added = event (add 0 3 x) 0 ∷ opened

pub dropped : List Event
dropped = event (drop 0) 0 ∷ added

-- no question says no, whatever the tables
adds : (T : Tables) → judged T (ledger opened) (forest opened) (add 0 3 x) ≡ 0
unfolding s x opened judged admitted asked by_ledger first_no in_range blank all any forest forest_after ledger step accept put_row each_from block_bytes packed_length per_byte block_length total_nodes sum insert add_leaf nodes fresh
adds T = refl

drops : (T : Tables) → judged T (ledger added) (forest added) (drop 0) ≡ 0
unfolding s x opened added judged admitted asked by_ledger first_no all any ledger step accept with_rows put_row
drops T = refl

pub add-then-drop : (T : Tables) × History dropped T
unfolding opened added dropped
add-then-drop =
    let h = begins s held passes in
    let k = accepted h.1 (add 0 3 x) (adds h.0) in
    accepted k.1 (drop 0) (drops k.0)
