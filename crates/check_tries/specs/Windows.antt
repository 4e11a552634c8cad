-- The test of the tries, once for each window of nodes: each node of the window stands in one place. N is the node table, P the page
-- table, S the sketch table.
use Rattle.std.specs.Prelude.{ℕ, zero, suc, ◌*◌, Bool, true, false, cond, List, ltb, eqb, Option, Some, None}
use Rattle.meaning.specs.Ledger.{Settings}
use Rattle.words.specs.Bits.{zeroed}
use Rattle.blocks.specs.RowBytes.{rows_of, block_of}
use Rattle.node_check.specs.declared.mark.Window.{Window}
use Rattle.node_check.specs.Given.{Given, given}
use Rattle.trie_check.specs.Trie.{Tested, test_trie}

abbrev pub window_at : ℕ → ℕ → Window
window_at from size = record { from = from; size = size }

-- the map after a test, and its answer
pub record Passed : Type 0 where
  pub map : List ℕ
  pub answer : Bool

abbrev pub passed : List ℕ → Bool → Passed
passed map answer = record { map = map; answer = answer }

-- what follows a test that left something of its budget
abbrev pub on_left : List ℕ → (ℕ → Passed) → Option ℕ → Passed
on_left map go (Some n) = go n
on_left map go None = passed map false

abbrev pub on_tested : (List ℕ → ℕ → Passed) → Tested → Passed
on_tested go t = on_left t.map (go t.map) t.answer

abbrev pub on_yes : (List ℕ → Passed) → Passed → Passed
on_yes go r = cond r.answer (go r.map) (passed r.map false)

-- k blocks from j on, each with so many pages: of the nodes none is left over
unfoldable pub blocks_from : (ℕ → Given) → ℕ → ℕ → ℕ → List ℕ → ℕ → Passed
blocks_from w live zero j map left = passed map (eqb left 0)
blocks_from w live (suc k) j map left =
    on_tested (λ map' left'. blocks_from w live k (suc j) map' left') (test_trie (w j) j map left live)

module _ (s : Settings) (N P S : List ℕ) where
  -- what the test of block j goes by
  unfoldable pub block_given : Window → ℕ → Given
  block_given w j = given N P S (block_of s j) (rows_of s j) w

  -- a map of so many words, for the nodes from `from` on
  module _ (words left live : ℕ) where
    unfoldable pub test_window : ℕ → List ℕ → Passed
    test_window from map =
        blocks_from (block_given (window_at from (32 * words))) live s.blocks 0 (zeroed map 0 words) left

    -- at most f windows, from window k on
    unfoldable pub windows_from : ℕ → ℕ → List ℕ → Passed
    windows_from zero k map = passed map true
    windows_from (suc f) k map =
        cond (ltb (k * (32 * words)) s.nodes)
        (on_yes (λ map'. windows_from f (suc k) map') (test_window (k * (32 * words)) map))
        (passed map true)

    unfoldable pub test_windows : List ℕ → Passed
    test_windows = windows_from 8 0
