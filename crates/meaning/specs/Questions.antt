-- The questions put to a call (document 01; 15 by document 02, F-1), by one definition for the tables and for the ledger.
use Rattle.std.specs.Prelude.{ℕ, Bool, ◌&&◌, not, List, [], ◌∷◌, ltb, leb, eqb, length}
use Rattle.meaning.specs.Lists.{all, any}
use Rattle.meaning.specs.Refusal.{Question, ask}
use Rattle.meaning.specs.Sketch.{in_range, blank}
use Rattle.meaning.specs.SketchCalls.{sketch_limits}
use Rattle.meaning.specs.Output.{has_room}
use Rattle.meaning.specs.Rights.{open_to, change_in_range}
use Rattle.meaning.specs.Trie.{Tree}
use Rattle.meaning.specs.Ledger.{Settings, Ledger, Reading, search, show, check, Call, opening, add, drop, change, reading, called_for}
use Rattle.meaning.specs.Forest.{forest_after, total_nodes}

-- what 8 to 13 are judged by
pub record View : Type 0 where
  pub bits : ℕ
  pub symbols : ℕ
  -- the capacity
  pub pages : ℕ
  -- is the page live?
  pub live : ℕ → Bool
  -- is the page live and open to the reader? reader, page
  pub shown : ℕ → ℕ → Bool
  -- how many pages a search finds: reader, radius, query
  pub found : ℕ → ℕ → List ℕ → ℕ
  -- have the tries, after an add, no more nodes than the capacity? page, class, sketch
  pub room : ℕ → ℕ → List ℕ → Bool

-- 4: settings, capacities and the count of thresholds; each is lent as a number of 16 bits
unfoldable pub in_limits : Settings → Bool
in_limits s =
    sketch_limits s.bits s.symbols
    && (ltb 0 s.blocks && leb s.blocks 8 && leb s.blocks s.symbols)
    && (ltb 0 s.pages && ltb s.pages 65536)
    && (leb s.blocks s.nodes && leb s.nodes 262144)
    && eqb (length s.thresholds) 64
    && all (λ t. ltb t 65536) s.thresholds

-- 7 to 13, as far as they concern a reading
abbrev pub asked_of : View → Reading → List Question
asked_of v (search r d x o) =
    ask 7 (ltb r 256 && leb d 64)
    ∷ ask 10 (eqb (length x) v.symbols)
    ∷ ask 11 (in_range v.bits x)
    ∷ ask 13 (has_room (v.found r d x) o)
    ∷ []
asked_of v (show r p) = ask 7 (ltb r 256) ∷ ask 8 (ltb p v.pages) ∷ ask 9 (v.shown r p) ∷ []
asked_of v check = []

-- and of every call
unfoldable pub asked : View → Call → List Question
asked v (opening s) = []
asked v (add p c x) =
    ask 7 (ltb c 64)
    ∷ ask 8 (ltb p v.pages)
    ∷ ask 9 (not (v.live p))
    ∷ ask 10 (eqb (length x) v.symbols)
    ∷ ask 11 (in_range v.bits x)
    ∷ ask 15 (not (blank x))
    ∷ ask 12 (v.room p c x)
    ∷ []
asked v (drop p) = ask 8 (ltb p v.pages) ∷ ask 9 (v.live p) ∷ []
asked v (change c) = ask 7 (change_in_range c) ∷ []
asked v (reading q) = asked_of v q

-- as the ledger and the tries of demand 2 have it
unfoldable pub by_ledger : Ledger → List Tree → View
by_ledger L F = record {
  bits = L.settings.bits;
  symbols = L.settings.symbols;
  pages = L.settings.pages;
  live = λ p. any (λ r. eqb r.page p) L.rows;
  shown = λ reader p. any (λ r. eqb r.page p && open_to L.register reader r.class) L.rows;
  found = λ reader radius x. length (called_for L reader radius x);
  room = λ p c x. leb (total_nodes (forest_after L.settings L.rows (add p c x) F)) L.settings.nodes;
}
