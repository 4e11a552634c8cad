-- The tests of the tries, step by step.
use Rattle.std.specs.Prelude.{Option, Some, None}
use Prim.Native.Nat.{ℕ, suc, ◌+◌, ◌-◌, ◌*◌, ◌≤◌, ◌<◌}
use native.Mathlib.Omega.{arith}
use native.Mathlib.Numerals.{add-one}
use mathlib.Core.Path.{◌≡◌, refl, ap, ◌∙◌}
use mathlib.Core.Bool.{Bool, true, false, cond, not}
use mathlib.Core.List.{List}
use borrow.Author.Tests.{lt-ltb, le-ltb, not-true, not-false}
use lib.Dec.{ltb, eqb}
use lib.ListN.{length}
use Rattle.meaning.specs.Ledger.{Settings}
use Rattle.words.specs.Bits.{zeroed}
use Rattle.node_check.specs.Given.{Given}
use Rattle.trie_check.specs.Trie.{tested, test_trie}
use Rattle.check_tries.specs.Windows.{Passed, passed, on_tested, on_yes, window_at, blocks_from, block_given, test_window, windows_from, test_windows}

-- ---- the blocks
module _ (w : ℕ → Given) (live q j : ℕ) (map : List ℕ) (left : ℕ) (R : Passed) (inv : blocks_from w live (q - j) j map left ≡ R) where
  pub blocks-done : q ≤ j → passed map (eqb left 0) ≡ R
  unfolding blocks_from
  blocks-done h = let e : q - j ≡ 0 = omega arith in rw (← inv, e) refl

  module _ (h : j < q) (map' : List ℕ) (a : Option ℕ) (e : tested map' a ≡ test_trie (w j) j map left live) where
    step : on_tested (λ m n. blocks_from w live (q - (j + 1)) (j + 1) m n) (tested map' a) ≡ R
    unfolding blocks_from
    step =
        let k : q - j ≡ suc (q - (j + 1)) = omega arith in
        ap (on_tested (λ m n. blocks_from w live (q - (j + 1)) (j + 1) m n)) e ∙ rw (← inv, k, add-one j) refl

    pub blocks_more : (n : ℕ) → a ≡ Some n → blocks_from w live (q - (j + 1)) (j + 1) map' n ≡ R
    blocks_more n m = rw m at step

    pub blocks-failed : a ≡ None → passed map' false ≡ R
    blocks-failed m = rw m at step

pub blocks_start : (w : ℕ → Given) (live q : ℕ) (map : List ℕ) (left : ℕ) → blocks_from w live (q - 0) 0 map left ≡ blocks_from w live q 0 map left
blocks_start w live q map left = ap (λ k. blocks_from w live k 0 map left) (omega arith)

-- ---- the windows
module _ (s : Settings) (N P S : List ℕ) (left live : ℕ) where
  pub window-zeroed : (words from : ℕ) (map map₁ : List ℕ) → map₁ ≡ zeroed map 0 words → (r : Passed) →
      r ≡ blocks_from (block_given s N P S (window_at from (32 * words))) live s.blocks 0 map₁ left → r ≡ test_window s N P S words left live from map
  unfolding test_window
  window-zeroed words from map map₁ z r e = rw (← z) e

  module _ (words k : ℕ) (map : List ℕ) (R : Passed) (inv : windows_from s N P S words left live (8 - k) k map ≡ R) where
    pub windows-done : 8 ≤ k → passed map true ≡ R
    unfolding windows_from
    windows-done h = let e : 8 - k ≡ 0 = omega arith in rw (← inv, e) refl

    module _ (h : k < 8) where
      turn : cond (ltb (k * (32 * words)) s.nodes)
          (on_yes (λ m. windows_from s N P S words left live (8 - (k + 1)) (k + 1) m) (test_window s N P S words left live (k * (32 * words)) map))
          (passed map true) ≡ R
      unfolding windows_from
      turn = let e : 8 - k ≡ suc (8 - (k + 1)) = omega arith in rw (← inv, e, add-one k) refl

      pub windows-past : s.nodes ≤ k * (32 * words) → passed map true ≡ R
      windows-past out = rw (le-ltb (k * (32 * words)) s.nodes out) at turn

      module _ (inside : k * (32 * words) < s.nodes) (same : length map ≡ words) (map' : List ℕ) (r : Bool)
          (e : passed map' r ≡ test_window s N P S (length map) left live (k * (32 * words)) map) where
        went : cond r (windows_from s N P S words left live (8 - (k + 1)) (k + 1) map') (passed map' false) ≡ R
        went = ap (on_yes (λ m. windows_from s N P S words left live (8 - (k + 1)) (k + 1) m)) (e ∙ ap (λ n. test_window s N P S n left live (k * (32 * words)) map) same)
            ∙ rw (lt-ltb (k * (32 * words)) s.nodes inside) at turn

        pub windows-no : not r ≡ true → passed map' false ≡ R
        windows-no z = rw (not-true r z) at went

        pub windows-next : not r ≡ false → windows_from s N P S words left live (8 - (k + 1)) (k + 1) map' ≡ R
        windows-next z = rw (not-false r z) at went

  pub windows-start : (words : ℕ) (map : List ℕ) → windows_from s N P S words left live (8 - 0) 0 map ≡ test_windows s N P S words left live map
  unfolding test_windows
  windows-start words map = refl
