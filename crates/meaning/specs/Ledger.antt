-- The ledger of document 01: what a history of calls has left, told by their arguments and refusals alone.
use Rattle.std.specs.Prelude.{ℕ, Bool, cond, ◌&&◌, ◌||◌, not, List, [], ◌∷◌, ltb, leb, eqb}
use Rattle.meaning.specs.Lists.{keep}
use Rattle.meaning.specs.Sketch.{distance}
use Rattle.meaning.specs.Output.{Output, listing}
use Rattle.meaning.specs.Rights.{Register, no_rights, open_to, Change, changed}

-- what an opening is given: b, m, q, the capacities, and the thresholds by level
pub record Settings : Type 0 where
  pub bits : ℕ
  pub symbols : ℕ
  pub blocks : ℕ
  pub pages : ℕ
  pub nodes : ℕ
  pub thresholds : List ℕ

-- in that order
abbrev pub settings_given : ℕ → ℕ → ℕ → ℕ → ℕ → List ℕ → Settings
settings_given b m q pages nodes thresholds =
    record { bits = b; symbols = m; blocks = q; pages = pages; nodes = nodes; thresholds = thresholds }

-- a live page
pub record Row : Type 0 where
  pub page : ℕ
  pub class : ℕ
  pub sketch : List ℕ

-- page, class, sketch
abbrev pub row : ℕ → ℕ → List ℕ → Row
row p c x = record { page = p; class = c; sketch = x }

pub record Ledger : Type 0 where
  pub settings : Settings
  -- rising by page
  pub rows : List Row
  pub register : Register

-- a call that changes nothing in the ledger
pub data Reading : Type 0 where
  -- reader, radius, query, the two lists lent for what is found
  search : ℕ → ℕ → List ℕ → Output → Reading
  -- reader, page; the call beside show counts as a show
  show : ℕ → ℕ → Reading
  check : Reading

-- a call, with its arguments as they were at entry, by what it may change
pub data Call : Type 0 where
  opening : Settings → Call
  -- page, class, sketch
  add : ℕ → ℕ → List ℕ → Call
  drop : ℕ → Call
  -- of the register alone
  change : Change → Call
  -- nothing
  reading : Reading → Call

-- one thing for an opening, by its settings, and another for every other call
abbrev pub if_opening : {A : Type 0} → Call → (Settings → A) → A → A
if_opening (opening s) f other = f s
if_opening (add p c x) f other = other
if_opening (drop p) f other = other
if_opening (change c) f other = other
if_opening (reading q) f other = other

-- what the ledger is told: the call and whether it was refused
pub record Event : Type 0 where
  pub call : Call
  pub refused : Bool

unfoldable pub with_rows : Ledger → List Row → Ledger
with_rows L rs = record { settings = L.settings; rows = rs; register = L.register }

unfoldable pub with_register : Ledger → Register → Ledger
with_register L R = record { settings = L.settings; rows = L.rows; register = R }

-- a row put in by its page number, so that the rows stay rising
unfoldable pub put_row : Row → List Row → List Row
put_row r [] = r ∷ []
put_row r (x ∷ xs) = cond (ltb x.page r.page) (x ∷ put_row r xs) (r ∷ x ∷ xs)

-- an accepted call's step
unfoldable pub accept : Call → Ledger → Ledger
accept (opening s) L = record { settings = s; rows = []; register = no_rights }
accept (add p c x) L = with_rows L (put_row (row p c x) L.rows)
accept (drop p) L = with_rows L (keep (λ r. not (eqb r.page p)) L.rows)
accept (change c) L = with_register L (changed c L.register)
accept (reading q) L = L

-- a refused call changes nothing
unfoldable pub step : Event → Ledger → Ledger
step e L = cond e.refused L (accept e.call L)

-- before any opening
unfoldable pub unopened : Ledger
unopened = record {
  settings = settings_given 0 0 0 0 0 [];
  rows = [];
  register = no_rights;
}

-- the ledger of a history's events, the last one first
unfoldable pub ledger : List Event → Ledger
ledger [] = unopened
ledger (e ∷ es) = step e (ledger es)

-- how far a row is from a query
abbrev pub far : List ℕ → Row → ℕ
far x r = distance r.sketch x

-- a row is nearer to the query than another, or as far and of a lower page
unfoldable pub above : List ℕ → Row → Row → Bool
above x r s = ltb (far x r) (far x s) || (eqb (far x r) (far x s) && ltb r.page s.page)

-- the rows that a search calls for, rising by page
unfoldable pub called_for : Ledger → ℕ → ℕ → List ℕ → List Row
called_for L reader radius x =
    keep (λ r. open_to L.register reader r.class && leb (far x r) radius) L.rows

-- what it lists: their page numbers and distances, by distance, then by page
unfoldable pub listed : Ledger → ℕ → ℕ → List ℕ → Output
listed L reader radius x = listing (λ r. r.page) (far x) radius (called_for L reader radius x)
