-- What a search lists (document 02, F-3), on closed examples.
use Prim.Native.Nat.{ℕ}
use mathlib.Core.Path.{◌≡◌, refl}
use mathlib.Core.Bool.{true, false}
use mathlib.Core.List.{List, [], ◌∷◌}
use Rattle.meaning.specs.Lists.{keep, any, all, grouped, ordered, onto, from, upto}
use Rattle.meaning.specs.Sketch.{distance}
use Rattle.meaning.specs.SketchCalls.{output_left}
use Rattle.meaning.specs.Output.{output, has_room, nearest, listing, both_left}
use Rattle.meaning.specs.Rights.{open_to, stands, same_pair, write, changed, join, grant}
use Rattle.meaning.specs.Ledger.{row, Event, add, opening, change, above, called_for, listed, ledger, step, accept, with_rows, with_register, put_row}
use Rattle.meaning.specs.Journal.{digits, decimal, hits, search_line}
use Rattle.meaning.specs.Sums.{settings, accepted}

abbrev query : List ℕ
query = 0 ∷ 1 ∷ 2 ∷ 3 ∷ []

-- the journal of document 01 up to its first S: pages 7 and 2 of class 3, which reader 5 has, and page 9 of class 4
abbrev worked : List Event
worked =
    accepted (add 2 3 (0 ∷ 1 ∷ 0 ∷ 0 ∷ []))
    ∷ accepted (add 9 4 (0 ∷ 1 ∷ 2 ∷ 2 ∷ []))
    ∷ accepted (add 7 3 query)
    ∷ accepted (change (grant 1 3))
    ∷ accepted (change (join 5 1))
    ∷ accepted (opening (settings 2 1))
    ∷ []

-- four more pages of class 3: 0 and 5 at distance 1, 1 at 0, 8 at 3
abbrev more : List Event
more =
    accepted (add 8 3 (1 ∷ 0 ∷ 0 ∷ 3 ∷ []))
    ∷ accepted (add 5 3 (0 ∷ 1 ∷ 2 ∷ 2 ∷ []))
    ∷ accepted (add 1 3 query)
    ∷ accepted (add 0 3 (1 ∷ 1 ∷ 2 ∷ 3 ∷ []))
    ∷ worked

pub record Nearest : Type 0 where
  pub journal : listed (ledger worked) 5 2 query ≡ output (7 ∷ 2 ∷ []) (0 ∷ 2 ∷ [])
  -- S 5 2 7:0 2:2
  pub line : search_line 5 (listed (ledger worked) 5 2 query) ≡ 83 ∷ 32 ∷ 53 ∷ 32 ∷ 50 ∷ 32 ∷ 55 ∷ 58 ∷ 48 ∷ 32 ∷ 50 ∷ 58 ∷ 50 ∷ 10 ∷ []
  -- equal distances in rising pages
  pub equal : listed (ledger more) 5 2 query ≡ output (1 ∷ 7 ∷ 0 ∷ 5 ∷ 2 ∷ []) (0 ∷ 0 ∷ 1 ∷ 1 ∷ 2 ∷ [])
  -- a radius of 0, and one that takes in the last page
  pub none-far : listed (ledger more) 5 0 query ≡ output (1 ∷ 7 ∷ []) (0 ∷ 0 ∷ [])
  pub all_near : listed (ledger more) 5 3 query ≡ output (1 ∷ 7 ∷ 0 ∷ 5 ∷ 2 ∷ 8 ∷ []) (0 ∷ 0 ∷ 1 ∷ 1 ∷ 2 ∷ 3 ∷ [])
  -- another reader
  pub closed : listed (ledger more) 6 3 query ≡ output [] []
  -- 13: each list is asked
  pub both-fit : has_room 2 (output (9 ∷ 9 ∷ []) (9 ∷ 9 ∷ 9 ∷ [])) ≡ true
  pub pages-short : has_room 2 (output (9 ∷ []) (9 ∷ 9 ∷ 9 ∷ [])) ≡ false
  pub distances-short : has_room 2 (output (9 ∷ 9 ∷ 9 ∷ []) (9 ∷ [])) ≡ false
  -- longer lists keep their rest, and a refusal leaves both
  pub rest : both_left 0 (output (7 ∷ 2 ∷ []) (0 ∷ 2 ∷ [])) (output (9 ∷ 9 ∷ 9 ∷ []) (8 ∷ 8 ∷ 8 ∷ 8 ∷ [])) ≡ output (7 ∷ 2 ∷ 9 ∷ []) (0 ∷ 2 ∷ 8 ∷ 8 ∷ [])
  pub refused : both_left 13 (output (7 ∷ 2 ∷ []) (0 ∷ 2 ∷ [])) (output (9 ∷ []) (8 ∷ 8 ∷ [])) ≡ output (9 ∷ []) (8 ∷ 8 ∷ [])
  -- the order: nearer, or as far and of a lower page; page 2 is far, page 7 near
  pub nearer : ordered (above query) (row 7 3 query ∷ row 2 3 (0 ∷ 1 ∷ 0 ∷ 0 ∷ []) ∷ []) ≡ true
  pub by-page : ordered (above query) (row 2 3 (0 ∷ 1 ∷ 0 ∷ 0 ∷ []) ∷ row 7 3 query ∷ []) ≡ false
  pub falling : ordered (above query) (row 7 3 query ∷ row 1 3 query ∷ []) ≡ false
  pub twice : ordered (above query) (row 7 3 query ∷ row 7 3 query ∷ []) ≡ false

pub nearest-pages : Nearest
unfolding
    keep any all grouped ordered onto from upto distance output_left has_room nearest listing both_left open_to stands same_pair write changed above
    called_for listed ledger step accept with_rows with_register put_row digits decimal hits search_line
nearest-pages = record {
  journal = refl;
  line = refl;
  equal = refl;
  none-far = refl;
  all_near = refl;
  closed = refl;
  both-fit = refl;
  pages-short = refl;
  distances-short = refl;
  rest = refl;
  refused = refl;
  nearer = refl;
  by-page = refl;
  falling = refl;
  twice = refl;
}
