-- What every call promises, as one relation on a history's tables. Each case cites the record that the call's own contract cites, over
-- the tables that the call takes, and says that every other table, and each one that it takes only to read, is as it was.
use Rattle.std.specs.Prelude.{ℕ, ◌≡◌, Bool, false, List, []}
use Rattle.meaning.specs.Output.{Output, output}
use Rattle.meaning.specs.Rights.{Change}
use Rattle.meaning.specs.Ledger.{Reading, search, show, check, Call, opening, add, drop, change, reading}
use Rattle.promises.specs.Tables.{Tables, tables, with_settings}
use Rattle.promises.specs.Answers.{number}
use Rattle.promises.specs.Calls.{OpenPromise, RightsPromise}
use Rattle.promises.specs.Readings.{row_shown, SearchPromise, CheckPromise}
use Rattle.promises.specs.Store.{AddPromise, DropPromise}

-- what a call gives; a part that it does not give is not looked at
pub record Answer : Type 0 where
  -- of the question that refuses it, or 0
  pub number : ℕ
  -- a search: the count given
  pub count : ℕ
  -- a search: its two lists afterwards
  pub output : Output
  -- a show
  pub row : List ℕ
  -- a check
  pub yes : Bool

-- an answer of a number alone; with a count and two lists; with a row; and with a yes or no
abbrev pub number_alone : ℕ → Answer
number_alone n = record { number = n; count = 0; output = output [] []; row = []; yes = false }

abbrev pub with_lists : ℕ → ℕ → Output → Answer
with_lists n count o = record { number = n; count = count; output = o; row = []; yes = false }

abbrev pub with_row : ℕ → List ℕ → Answer
with_row n row = record { number = n; count = 0; output = output [] []; row = row; yes = false }

abbrev pub with_verdict : ℕ → Bool → Answer
with_verdict n t = record { number = n; count = 0; output = output [] []; row = []; yes = t }

-- the tables that an add or a drop takes, and those that a show takes; a table that is not taken stands as []
abbrev pub to_store : Tables → Tables
to_store T = record { settings = T.settings; nodes = T.nodes; pages = T.pages; sketches = T.sketches; working = [] }

abbrev pub to_show : Tables → Tables
to_show T = record { settings = T.settings; nodes = []; pages = T.pages; sketches = T.sketches; working = [] }

-- the tables with others in the place of some
abbrev pub with_opening : Tables → List ℕ → List ℕ → List ℕ → Tables
with_opening T settings nodes pages = record { settings = settings; nodes = nodes; pages = pages; sketches = T.sketches; working = T.working }

abbrev pub with_working : Tables → List ℕ → Tables
with_working T ws = record { settings = T.settings; nodes = T.nodes; pages = T.pages; sketches = T.sketches; working = ws }

-- a reading, lent the tables T, gives this answer and leaves this working table
abbrev pub Reads : Reading → Tables → Answer → List ℕ → Type 0
Reads (search r d x o) T a working = SearchPromise T r d x o a.number a.count a.output working
Reads (show r p) T a working =
    (a.number ≡ number (to_show T) [] (reading (show r p))) × (a.row ≡ row_shown (to_show T) r p) × (working ≡ T.working)
Reads check T a working = CheckPromise T a.number a.yes working

-- the call, lent the tables T, gives this answer and leaves the tables T'
abbrev pub Promised : Call → Tables → Answer → Tables → Type 0
Promised (opening s) T a T' =
    OpenPromise s T a.number T'.settings T'.nodes T'.pages × (T' ≡ with_opening T T'.settings T'.nodes T'.pages)
Promised (add p c x) T a T' = AddPromise (to_store T) p c x a.number (to_store T') × (T'.working ≡ T.working)
Promised (drop p) T a T' = DropPromise (to_store T) p a.number (to_store T') × (T'.working ≡ T.working)
Promised (change c) T a T' = RightsPromise c T.settings a.number T'.settings × (T' ≡ with_settings T T'.settings)
Promised (reading q) T a T' = Reads q T a T'.working × (T' ≡ with_working T T'.working)

-- ---- a call that takes some of the tables: whatever the others hold

-- a change of the register, which takes the settings table
abbrev pub OnSettings : Change → List ℕ → ℕ → List ℕ → Type 0
OnSettings c settings n settings' =
    (nodes pages sketches working : List ℕ)
    → Promised (change c) (tables settings nodes pages sketches working) (number_alone n) (tables settings' nodes pages sketches working)

-- an add or a drop, which takes all but the working table
abbrev pub OnStore : Call → Tables → ℕ → Tables → Type 0
OnStore c T n T' = (working : List ℕ) → Promised c (with_working T working) (number_alone n) (with_working T' working)

-- a show, which takes the settings, the pages and the sketches: its number and its row
abbrev pub OnShow : ℕ → ℕ → Tables → ℕ → List ℕ → Type 0
OnShow reader page T n row =
    (nodes working : List ℕ)
    → let U = tables T.settings nodes T.pages T.sketches working in Promised (reading (show reader page)) U (with_row n row) U
