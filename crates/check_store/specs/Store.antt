-- The test of a store: its pages, its free chain, and its tries. N is the node table, P the page table, S the sketch table.
use Rattle.std.specs.Prelude.{ℕ, List}
use Rattle.meaning.specs.Ledger.{Settings}
use Rattle.check_tables.specs.Pages.{test_pages}
use Rattle.check_tables.specs.Free.{test_free}
use Rattle.check_tries.specs.Windows.{Passed, on_left, test_windows}

-- with the link to the first free node, and a map of so many words
unfoldable pub test_store : Settings → List ℕ → List ℕ → List ℕ → ℕ → ℕ → List ℕ → Passed
test_store s N P S free words map =
    on_left map
    (λ live. on_left map (λ left. test_windows s N P S words left live map) (test_free N s.nodes free))
    (test_pages s P S)
