-- How the code tests the table: each threshold in turn, then all that an opening shows.
use Prim.Native.Nat.{ℕ, zero, suc, ◌≤◌, ◌<◌}
use native.Mathlib.Omega.{arith}
use native.Mathlib.Nat.{not-suc-le-zero, le_of_suc-le-suc}
use mathlib.Core.Path.{◌≡◌}
use mathlib.Core.Bool.{Bool, ◌&&◌, and_assoc, and-true}
use mathlib.Core.List.{List, [], ◌∷◌}
use lib.Dec.{eqb}
use lib.ListN.{length, get_or, take, length-take, length-drop}
use Rattle.meaning.specs.Lists.{all}
use Rattle.layout.specs.Settings.{mark, settings_of, shows_opening}
use Rattle.layout.specs.Header.{header_of}
use Rattle.layout.proofs.Limits.{short, limits_on, in-limits}

module _ {A : Type 0} (p : A → Bool) where
  -- one element more
  pub all_more : (l : List A) (k : ℕ) (d : A) → k < length l → all p (take (suc k) l) ≡ all p (take k l) && p (get_or l k d)
  unfolding all
  all_more [] k d h = absurd (not-suc-le-zero h)
  all_more (x ∷ l) zero d h = and-true (p x)
  all_more (x ∷ l) (suc k) d h = rw (all_more l k d (le_of_suc-le-suc h), and_assoc)

-- ---- the test of a table, as the code makes it
module _ (ws : List ℕ) (long : 70 ≤ length ws) where
  pub thresholds-count : length (settings_of ws).thresholds ≡ 64
  unfolding settings_of
  thresholds-count = simp (length-take, length-drop) (omega arith)

  pub shows-tests : eqb (get_or ws 0 0) mark && limits_on (header_of (settings_of ws)) 64 && all short (settings_of ws).thresholds ≡ shows_opening ws
  unfolding shows_opening
  shows-tests = rw (in-limits, thresholds-count, and_assoc)
