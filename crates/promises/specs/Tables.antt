-- The tables lent to a call, and what the questions read off them. A table that a call does not take stands as [].
use Rattle.std.specs.Prelude.{ℕ, suc, zero, Bool, true, false, cond, ◌&&◌, List, [], ◌∷◌, leb, length}
use Rattle.meaning.specs.Lists.{keep, upto}
use Rattle.meaning.specs.Sketch.{distance}
use Rattle.meaning.specs.Trie.{Tree}
use Rattle.meaning.specs.Ledger.{Settings, Row, row, Reading, search, show, check, Call, opening, add, drop, change, reading}
use Rattle.meaning.specs.Forest.{forest_after, total_nodes}
use Rattle.meaning.specs.Questions.{View}
use Rattle.layout.specs.Settings.{settings_of}
use Rattle.layout.specs.Pages.{is_live, class_of, row_of}
use Rattle.rights.specs.Register.{opens}

-- words, words, words, bytes, words
pub record Tables : Type 0 where
  pub settings : List ℕ
  pub nodes : List ℕ
  pub pages : List ℕ
  pub sketches : List ℕ
  pub working : List ℕ

abbrev pub tables : List ℕ → List ℕ → List ℕ → List ℕ → List ℕ → Tables
tables settings nodes pages sketches working = record {
  settings = settings;
  nodes = nodes;
  pages = pages;
  sketches = sketches;
  working = working;
}

abbrev pub settings_alone : List ℕ → Tables
settings_alone ws = record { settings = ws; nodes = []; pages = []; sketches = []; working = [] }

-- those of a show
abbrev pub show_tables : List ℕ → List ℕ → List ℕ → Tables
show_tables ws pages sketches = record { settings = ws; nodes = []; pages = pages; sketches = sketches; working = [] }

abbrev pub with_settings : Tables → List ℕ → Tables
with_settings T ws = record { settings = ws; nodes = T.nodes; pages = T.pages; sketches = T.sketches; working = T.working }

-- the tables that a call takes beside the settings table and the output: the nodes, the pages with the sketches, the working table
pub record Takes : Type 0 where
  pub nodes : Bool
  pub pages : Bool
  pub working : Bool

abbrev takes_all : Takes
takes_all = record { nodes = true; pages = true; working = true }

abbrev takes_store : Takes
takes_store = record { nodes = true; pages = true; working = false }

abbrev takes_pages : Takes
takes_pages = record { nodes = false; pages = true; working = false }

abbrev takes_none : Takes
takes_none = record { nodes = false; pages = false; working = false }

abbrev pub takes_of : Reading → Takes
takes_of (search r d x o) = takes_all
takes_of (show r p) = takes_pages
takes_of check = takes_all

abbrev pub takes : Call → Takes
takes (opening s) = takes_all
takes (add p c x) = takes_store
takes (drop p) = takes_store
takes (change c) = takes_none
takes (reading q) = takes_of q

-- what the settings table says that the opening was given
abbrev pub given : Tables → Settings
given T = settings_of T.settings

-- a page's class and row
unfoldable pub page_class : Tables → ℕ → ℕ
page_class T p = class_of T.pages p

unfoldable pub page_row : Tables → ℕ → List ℕ
page_row T p = row_of (given T).symbols T.sketches p

-- how far a page's row is from a query
abbrev pub page_distance : Tables → List ℕ → ℕ → ℕ
page_distance T x p = distance (page_row T p) x

-- a page is live, and its class is open to the reader
unfoldable pub is_shown : Tables → ℕ → ℕ → Bool
is_shown T reader p = is_live T.pages p && opens T.settings reader (page_class T p)

-- the pages that a search is to list: those shown to the reader whose rows are within the radius of the query, here rising
unfoldable pub scan : Tables → ℕ → ℕ → List ℕ → List ℕ
scan T reader radius x = keep (λ p. is_shown T reader p && leb (page_distance T x p) radius) (upto (given T).pages)

-- the rows of the live pages among n from page k on
unfoldable pub rows_from : (ℕ → Bool) → (ℕ → Row) → ℕ → ℕ → List Row
rows_from live at k zero = []
rows_from live at k (suc n) = cond (live k) (at k ∷ rows_from live at (suc k) n) (rows_from live at (suc k) n)

unfoldable pub rows_of : Tables → List Row
rows_of T = rows_from (is_live T.pages) (λ p. row p (page_class T p) (page_row T p)) 0 (given T).pages

-- what 8 to 13 are judged by, from the tables and the tries that they hold
unfoldable pub by_tables : Tables → List Tree → View
by_tables T F = record {
  bits = (given T).bits;
  symbols = (given T).symbols;
  pages = (given T).pages;
  live = is_live T.pages;
  shown = is_shown T;
  found = λ reader radius x. length (scan T reader radius x);
  room = λ p c x. leb (total_nodes (forest_after (given T) (rows_of T) (add p c x) F)) (given T).nodes;
}
