-- The tries of demand 2 beside the ledger: one for each block, grown by the same events.
use Rattle.std.specs.Prelude.{ℕ, suc, ◌/◌, cond, List, [], ◌∷◌, ◌++◌, map, eqb, replicate}
use Rattle.meaning.specs.Lists.{sum}
use Rattle.meaning.specs.Sketch.{pack, packed_length, block, block_length}
use Rattle.meaning.specs.Trie.{Tree, fresh, insert, remove, met}
use Rattle.meaning.specs.Trie.{nodes as nodes_of}
use Rattle.meaning.specs.Ledger.{Settings, Row, row, Event, Call, opening, add, drop, change, reading, put_row, ledger}

-- the packed length of block j
unfoldable pub block_bytes : Settings → ℕ → ℕ
block_bytes s j = packed_length s.bits (block_length s.symbols s.blocks j)

-- the packed bytes of a sketch in block j
unfoldable pub bytes_of_sketch : Settings → ℕ → List ℕ → List ℕ
bytes_of_sketch s j x = pack s.bits (block s.symbols s.blocks j x)

-- the packed bytes of a page in block j, by its row
unfoldable pub bytes_in : Settings → List Row → ℕ → ℕ → List ℕ
bytes_in s [] j p = []
bytes_in s (r ∷ rs) j p = cond (eqb r.page p) (bytes_of_sketch s j r.sketch) (bytes_in s rs j p)

-- the tries of blocks j, j + 1, .., each changed
unfoldable pub each_from : (ℕ → Tree → Tree) → ℕ → List Tree → List Tree
each_from f j [] = []
each_from f j (t ∷ ts) = f j t ∷ each_from f (suc j) ts

-- the tries after an accepted call, from the settings and the rows before it
unfoldable pub forest_after : Settings → List Row → Call → List Tree → List Tree
forest_after s rows (opening s') F = replicate s'.blocks fresh
forest_after s rows (add p c x) F =
    let after : List Row = put_row (row p c x) rows in
    each_from (λ j. insert (bytes_in s after j) (block_bytes s j) s.thresholds 0 p) 0 F
forest_after s rows (drop p) F = each_from (λ j. remove (bytes_in s rows j) 0 p) 0 F
forest_after s rows (change c) F = F
forest_after s rows (reading q) F = F

-- the tries of a history's events, the last one first
unfoldable pub forest : List Event → List Tree
forest [] = []
forest (e ∷ es) = cond e.refused (forest es) (forest_after (ledger es).settings (ledger es).rows e.call (forest es))

-- how many nodes the tries have together
unfoldable pub total_nodes : List Tree → ℕ
total_nodes F = sum (map nodes_of F)

-- the pages that a search meets in the tries of blocks j, j + 1, ..: each is walked within radius / q
unfoldable pub met_from : Settings → ℕ → List ℕ → ℕ → List Tree → List ℕ
met_from s radius x j [] = []
met_from s radius x j (t ∷ ts) = met s.bits (radius / s.blocks) t (bytes_of_sketch s j x) ++ met_from s radius x (suc j) ts
