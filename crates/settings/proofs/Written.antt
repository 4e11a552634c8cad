-- A written header.
use Prim.Native.Nat.{ℕ, ◌≤◌}
use native.Mathlib.Omega.{arith}
use mathlib.Core.Path.{◌≡◌, ap, ◌∙◌}
use mathlib.Core.List.{List, [], ◌∷◌}
use lib.ListN.{length}
use lib.Seq.{take_all, drop-drop, sets, sets-eq, paste}
use Rattle.layout.specs.declared.Numbers.{Numbers}
use Rattle.layout.specs.Settings.{mark, header, with_header}
use Rattle.layout.specs.Header.{with_thresholds}

module _ (ws : List ℕ) (h : Numbers) (ts : List ℕ) (long : 70 ≤ length ws) (count : length ts ≡ 64) where
  abbrev six : List ℕ
  six = mark ∷ h.b ∷ h.m ∷ h.q ∷ h.pages ∷ h.nodes ∷ []

  -- what the stores of the code leave
  pub header-written : paste (sets ws 0 six) 6 ts 64 ≡ with_header ws (with_thresholds h ts)
  unfolding with_header header
  header-written =
      ap (λ l. paste l 6 ts 64) (sets-eq six ws 0 (omega arith))
      ∙ rw (take_all 64 ts (omega arith), drop-drop 64 6 ws)
