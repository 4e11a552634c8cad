-- The sums that document 01 marks, as one table about the definitions. It is proved by the one theorem of proofs/Sums.antt.
use Rattle.std.specs.Prelude.{ℕ, ◌≡◌, false, List, [], ◌∷◌, map, length, replicate}
use Rattle.meaning.specs.Lists.{keep, upto}
use Rattle.meaning.specs.Refusal.{first_no}
use Rattle.meaning.specs.Sketch.{distance, pack, block_length}
use Rattle.meaning.specs.SketchCalls.{pack_number, unpack_number}
use Rattle.meaning.specs.Output.{Output, output}
use Rattle.meaning.specs.Rights.{open_to, join, grant}
use Rattle.meaning.specs.Trie.{Tree}
use Rattle.meaning.specs.Ledger.{Settings, settings_given, Ledger, Event, search, Call, opening, add, change, reading, ledger, called_for, listed}
use Rattle.meaning.specs.Forest.{forest, total_nodes, met_from}
use Rattle.meaning.specs.Questions.{asked, by_ledger}

-- b 2 and m 4, with q blocks and one threshold at all levels
abbrev pub settings : ℕ → ℕ → Settings
settings q threshold = settings_given 2 4 q 8 16 (replicate 64 threshold)

-- an accepted call
abbrev pub accepted : Call → Event
accepted c = record { call = c; refused = false }

-- a history that adds pages 0, 1, .. with these sketches, the last one first
unfoldable pub adds : ℕ → ℕ → List (List ℕ) → List Event
adds q threshold [] = accepted (opening (settings q threshold)) ∷ []
adds q threshold (x ∷ xs) = accepted (add (length xs) 3 x) ∷ adds q threshold xs

-- how many nodes its tries have
unfoldable pub nodes_of_adds : ℕ → ℕ → List (List ℕ) → ℕ
nodes_of_adds q threshold xs = total_nodes (forest (adds q threshold xs))

-- two pages whose two blocks are at distances 1 and 2, and at 2 and 2, from a query of zeros; reader 5 has class 3 by group 1
abbrev pub query : List ℕ
query = 0 ∷ 0 ∷ 0 ∷ 0 ∷ []

unfoldable pub two_pages : List Event
two_pages =
    accepted (change (join 5 1))
    ∷ accepted (change (grant 1 3))
    ∷ adds 2 0 ((1 ∷ 1 ∷ 1 ∷ 1 ∷ []) ∷ (1 ∷ 0 ∷ 1 ∷ 1 ∷ []) ∷ [])

pub record MarkedSums : Type 0 where
  -- b 2: 0 1 2 3 packs to 228, 0 1 3 2 to 180; their distance is 2
  pub first-packs : pack 2 (0 ∷ 1 ∷ 2 ∷ 3 ∷ []) ≡ 228 ∷ []
  pub second-packs : pack 2 (0 ∷ 1 ∷ 3 ∷ 2 ∷ []) ≡ 180 ∷ []
  pub their-distance : distance (0 ∷ 1 ∷ 2 ∷ 3 ∷ []) (0 ∷ 1 ∷ 3 ∷ 2 ∷ []) ≡ 2
  -- b 3: 5 6 7 packs to 53, 7; byte 64 is refused with 11
  pub third-packs : pack 3 (5 ∷ 6 ∷ 7 ∷ []) ≡ 53 ∷ 7 ∷ []
  pub byte-64 : unpack_number 3 3 (64 ∷ 7 ∷ []) (replicate 3 0) ≡ 11
  -- b 2: symbol 3 is accepted, 4 gives 11
  pub symbol-3 : pack_number 2 1 (3 ∷ []) (0 ∷ []) ≡ 0
  pub symbol-4 : pack_number 2 1 (4 ∷ []) (0 ∷ []) ≡ 11
  -- m 10, q 4: block lengths 3, 3, 2, 2
  pub lengths : map (block_length 10 4) (upto 4) ≡ 3 ∷ 3 ∷ 2 ∷ 2 ∷ []
  -- b 2, m 4, q 1, threshold 1: one page, 1 node; a second with another byte, 3 nodes; a third equal to the first, still 3
  pub one-page : nodes_of_adds 1 1 ((0 ∷ 1 ∷ 2 ∷ 3 ∷ []) ∷ []) ≡ 1
  pub two_bytes : nodes_of_adds 1 1 ((0 ∷ 1 ∷ 3 ∷ 2 ∷ []) ∷ (0 ∷ 1 ∷ 2 ∷ 3 ∷ []) ∷ []) ≡ 3
  pub three-pages : nodes_of_adds 1 1 ((0 ∷ 1 ∷ 2 ∷ 3 ∷ []) ∷ (0 ∷ 1 ∷ 3 ∷ 2 ∷ []) ∷ (0 ∷ 1 ∷ 2 ∷ 3 ∷ []) ∷ []) ≡ 3
  -- as before, but two equal pages: 2 nodes
  pub equal-pages : nodes_of_adds 1 1 ((0 ∷ 1 ∷ 2 ∷ 3 ∷ []) ∷ (0 ∷ 1 ∷ 2 ∷ 3 ∷ []) ∷ []) ≡ 2
  -- q 2, radius 3: block distances 1 and 2 are found, 2 and 2 are not listed
  pub found : met_from (settings 2 0) 3 query 0 (forest two_pages) ≡ 0 ∷ []
  pub not_listed : listed (ledger two_pages) 5 3 query ≡ output (0 ∷ []) (3 ∷ [])
  -- radius m lists every open page; radius 65 gives 7
  pub radius-m : (L : Ledger) (reader : ℕ) (x : List ℕ)
      → called_for L reader (length x) x ≡ keep (λ r. open_to L.register reader r.class) L.rows
  pub radius-65 : (L : Ledger) (F : List Tree) (reader : ℕ) (x : List ℕ) (o : Output) → first_no (asked (by_ledger L F) (reading (search reader 65 x o))) ≡ 7
