-- The test of the live pages, apart from the tries. P is the page table, S the sketch table.
use Rattle.std.specs.Prelude.{ℕ, zero, suc, ◌+◌, Bool, cond, ◌&&◌, ◌||◌, not, List, ltb, eqb, Option, Some, None}
use Rattle.meaning.specs.Sketch.{in_range}
use Rattle.meaning.specs.Ledger.{Settings}
use Rattle.layout.specs.Pages.{is_live, class_of, signature_at, row_of}
use Rattle.layout.specs.Signature.{signature}

-- a page whose row is x has symbols below 2^b, and its signature
abbrev pub row_fits : Settings → List ℕ → ℕ → List ℕ → Bool
row_fits s P p x = in_range s.bits x && eqb (signature_at P s.pages p) (signature s.bits x)

-- page p is not live, or has a class below 64 and a row that fits
unfoldable pub page_fits : Settings → List ℕ → List ℕ → ℕ → Bool
page_fits s P S p =
    not (is_live P p) || (ltb (class_of P p) 64 && row_fits s P p (row_of s.symbols S p))

-- n pages from k on, and a before them: how many are live, where all pass a test
unfoldable pub count_from : (ℕ → Bool) → (ℕ → Bool) → ℕ → ℕ → ℕ → Option ℕ
count_from fits live zero k a = Some a
count_from fits live (suc n) k a = cond (fits k) (count_from fits live n (suc k) (a + cond (live k) 1 0)) None

unfoldable pub test_pages : Settings → List ℕ → List ℕ → Option ℕ
test_pages s P S = count_from (page_fits s P S) (is_live P) s.pages 0 0
