-- What a drop does with any tables: T are those at entry, p the page.
use Rattle.std.specs.Prelude.{ℕ, List, get_or, set, Some, None, Result, Ok, Err}
use Rattle.layout.specs.declared.Numbers.{Numbers}
use Rattle.meaning.specs.Ledger.{drop}
use Rattle.layout.specs.Settings.{free_at}
use Rattle.layout.specs.Pages.{without_page}
use Rattle.promises.specs.Tables.{Tables, given}
use Rattle.promises.specs.Store.{Outcome, outcome}
use Rattle.trie_remove.specs.Remove.{Gone, gone}
use Rattle.entry.specs.Admission.{admission}
use Rattle.drop_laws.specs.Removal.{remove_all}

-- with other words of the tries
abbrev pub with_tries : Tables → List ℕ → List ℕ → Tables
with_tries T N P = record { settings = T.settings; nodes = N; pages = P; sketches = T.sketches; working = T.working }

-- the page struck out besides, and another free link
abbrev pub dropped : Tables → ℕ → List ℕ → List ℕ → ℕ → Tables
dropped T p N P free = record {
  settings = set T.settings free_at free;
  nodes = N;
  pages = without_page P p;
  sketches = T.sketches;
  working = T.working;
}

module _ (T : Tables) (p : ℕ) where
  -- 14 where a removal stops on unsound tables: the promise of a drop names the causes
  abbrev pub on_gone : Gone → Outcome
  on_gone (gone N P (Some free)) = outcome 0 (dropped T p N P free)
  on_gone (gone N P None) = outcome 14 (with_tries T N P)

  -- 5, 6, 8 and 9
  abbrev pub on_opening : Result Numbers ℕ → Outcome
  on_opening (Ok h) = on_gone (remove_all (given T) T.sketches p T.nodes T.pages (get_or T.settings free_at 0))
  on_opening (Err n) = outcome n T

  unfoldable pub drop_page : Outcome
  drop_page = on_opening (admission T (drop p))
