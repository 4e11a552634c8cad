-- The parts of the test of a store.
use Rattle.std.specs.Prelude.{Option, Some, None}
use Prim.Native.Nat.{ℕ}
use mathlib.Core.Path.{◌≡◌, refl}
use mathlib.Core.Bool.{false}
use mathlib.Core.List.{List}
use Rattle.meaning.specs.Ledger.{Settings}
use Rattle.check_tables.specs.Pages.{test_pages}
use Rattle.check_tables.specs.Free.{test_free}
use Rattle.check_tries.specs.Windows.{Passed, passed, test_windows}
use Rattle.check_store.specs.Store.{test_store}

module _ (s : Settings) (N P S : List ℕ) (free words : ℕ) (map : List ℕ) (a : Option ℕ) (pages : a ≡ test_pages s P S) where
  pub store-pages : a ≡ None → passed map false ≡ test_store s N P S free words map
  unfolding test_store
  store-pages e = rw (← pages, e) refl

  module _ (live : ℕ) (e : a ≡ Some live) (b : Option ℕ) (chain : b ≡ test_free N s.nodes free) where
    pub store-free : b ≡ None → passed map false ≡ test_store s N P S free words map
    unfolding test_store
    store-free f = rw (← pages, e, ← chain, f) refl

    pub store-tries : (left : ℕ) → b ≡ Some left → (r : Passed) → r ≡ test_windows s N P S words left live map → r ≡ test_store s N P S free words map
    unfolding test_store
    store-tries left f r t = rw (← pages, e, ← chain, f) t
