-- What an add does with any tables: T are those at entry, p the page, c its class, x its sketch.
use Rattle.std.specs.Prelude.{ℕ, List, get_or, set, Some, None, Result, Ok, Err}
use Rattle.layout.specs.declared.Numbers.{Numbers}
use Rattle.meaning.specs.Ledger.{add}
use Rattle.layout.specs.Settings.{free_at}
use Rattle.layout.specs.Pages.{with_row, with_page}
use Rattle.layout.specs.Signature.{signature}
use Rattle.trie.specs.declared.Stop.{Stop}
use Rattle.trie.specs.declared.Stop.TheVariants.{Full, Broken}
use Rattle.promises.specs.Tables.{Tables, tables, given}
use Rattle.promises.specs.Store.{Outcome, outcome}
use Rattle.entry.specs.Admission.{admission}
use Rattle.add_laws.specs.Room.{room_of}
use Rattle.add_laws.specs.Insert.{Filled, filled, insert_all}

module _ (T : Tables) (p c : ℕ) (x : List ℕ) where
  -- the sketch table with the page's row
  abbrev pub row_added : List ℕ
  row_added = with_row (given T).symbols T.sketches p x

  -- a page table with the page live in its class, and with the signature of its row
  abbrev pub page_written : List ℕ → List ℕ
  page_written P = with_page (given T).pages P p c (signature (given T).bits x)

  -- the tables with these tries and this free link, the page and its row
  abbrev pub page_added : List ℕ → List ℕ → ℕ → Tables
  page_added N P link = tables (set T.settings free_at link) N (page_written P) row_added T.working

  -- 14 where an insertion stops on unsound tables: the promise of an add names the causes
  abbrev pub on_filled : Filled → Outcome
  on_filled (filled N P (Some link)) = outcome 0 (page_added N P link)
  on_filled (filled N P None) = outcome 14 (tables T.settings N P row_added T.working)

  unfoldable pub put_page : Outcome
  put_page = on_filled (insert_all (given T) row_added x p T.nodes T.pages (get_or T.settings free_at 0))

  -- 12 where the nodes do not suffice
  abbrev pub on_room : Result (Unit {0}) Stop → Outcome
  on_room (Ok u) = put_page
  on_room (Err Full) = outcome 12 T
  on_room (Err Broken) = outcome 14 T

  unfoldable pub place_page : Outcome
  place_page = on_room (room_of (given T) T.nodes T.pages T.sketches x (get_or T.settings free_at 0))

  -- 5 to 11 and 15
  abbrev pub on_opening : Result Numbers ℕ → Outcome
  on_opening (Ok h) = place_page
  on_opening (Err n) = outcome n T

  unfoldable pub add_page : Outcome
  add_page = on_opening (admission T (add p c x))
