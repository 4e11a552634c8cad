-- What a call is told by the questions on its tables, 5 and 6, and on a page, 8 and 9.
use Rattle.layout.specs.declared.Numbers.{Numbers}
use Rattle.std.specs.Prelude.{ℕ, Bool, cond, ◌&&◌, not, List, [], ◌∷◌, ltb, eqb, Result, Ok, Err}
use Rattle.meaning.specs.Refusal.{Question, ask, first_no}
use Rattle.layout.specs.Header.{header_of, pick, tables_first}
use Rattle.layout.specs.Pages.{is_live}
use Rattle.promises.specs.Tables.{Tables, given}
use Rattle.promises.specs.Answers.{long_nodes, long_pages, long_working}

-- the opening, or the number of the first "no"
abbrev pub told_by : Tables → ℕ → Result Numbers ℕ
told_by T n = pick (eqb n 0) (Ok (header_of (given T))) (Err n)

-- 5 and 6 of a call that takes the store: they hang on the tables alone
unfoldable pub store_asked : Tables → List Question
store_asked T = tables_first T.settings (long_nodes (given T) T && long_pages (given T) T) []

unfoldable pub store_entry : Tables → Result Numbers ℕ
store_entry T = told_by T (first_no (store_asked T))

-- and of one that takes the working table besides
unfoldable pub tables_asked : Tables → List Question
tables_asked T = tables_first T.settings (long_nodes (given T) T && long_pages (given T) T && long_working (given T) T) []

unfoldable pub entry : Tables → Result Numbers ℕ
entry T = told_by T (first_no (tables_asked T))

-- 8 and 9: is page p below the capacity, and live where it is to be?
unfoldable pub page_asked : ℕ → List ℕ → ℕ → Bool → List Question
page_asked cap pages p live = ask 8 (ltb p cap) ∷ ask 9 (cond live (is_live pages p) (not (is_live pages p))) ∷ []
