-- The settings table: a written header shows its opening, and an opening hangs on the first 70 words alone.
use Prim.Native.Nat.{ℕ, ◌+◌, ◌≤◌, ◌<◌}
use native.Mathlib.Omega.{arith}
use mathlib.Core.Path.{◌≡◌, sym, ap, ◌∙◌}
use mathlib.Core.Bool.{false}
use mathlib.Core.Logic.{◌≢◌}
use mathlib.Core.List.{List, ◌++◌}
use borrow.Author.Tests.{ne_eqb}
use lib.ListN.{length, get_or, set, take, drop}
use lib.Seq.{take_at, take-take, get_or-take, take-set-le}
use Rattle.meaning.specs.Ledger.{Settings}
use Rattle.meaning.specs.Questions.{in_limits}
use Rattle.layout.specs.Settings.{mark, header, settings_of, shows_opening}
use Rattle.layout.proofs.Parts.{drop-take}

-- ---- a table that begins with a header
module _ (s : Settings) (rest : List ℕ) (count : length s.thresholds ≡ 64) where
  pub settings-header : settings_of (header s ++ rest) ≡ s
  unfolding settings_of header
  settings-header = λ i.
      record {
        bits = s.bits;
        symbols = s.symbols;
        blocks = s.blocks;
        pages = s.pages;
        nodes = s.nodes;
        thresholds = take_at s.thresholds rest 64 count i;
      }

  pub shows-header : shows_opening (header s ++ rest) ≡ in_limits s
  unfolding shows_opening header
  shows-header = rw settings-header

-- ---- an opening hangs on the first 70 words alone
settings-take : (ws : List ℕ) → settings_of (take 70 ws) ≡ settings_of ws
unfolding settings_of
settings-take ws = λ i.
    record {
      bits = get_or-take 70 ws 1 0 (omega arith) i;
      symbols = get_or-take 70 ws 2 0 (omega arith) i;
      blocks = get_or-take 70 ws 3 0 (omega arith) i;
      pages = get_or-take 70 ws 4 0 (omega arith) i;
      nodes = get_or-take 70 ws 5 0 (omega arith) i;
      thresholds = (ap (take 64) (drop-take 6 64 ws) ∙ take-take 64 64 (drop 6 ws) (omega arith)) i;
    }

module _ (ws vs : List ℕ) (same : take 70 ws ≡ take 70 vs) where
  pub settings-kept : settings_of ws ≡ settings_of vs
  settings-kept = sym (settings-take ws) ∙ ap settings_of same ∙ settings-take vs

-- a store behind them
module _ (ws : List ℕ) (i v : ℕ) (behind : 70 ≤ i) where
  pub settings-set : settings_of (set ws i v) ≡ settings_of ws
  settings-set = settings-kept (set ws i v) ws (take-set-le 70 ws i v behind)

-- ---- a table with another mark shows none
another-mark : (ws : List ℕ) → get_or ws 0 0 ≢ mark → shows_opening ws ≡ false
unfolding shows_opening
another-mark ws n = rw (ne_eqb (get_or ws 0 0) mark n)

-- not one of layouts 1 to 3
pub layouts-before : (ws : List ℕ) (k : ℕ) → k < 4 → get_or ws 0 0 ≡ 0x56440000 + k → shows_opening ws ≡ false
layouts-before ws k h e = another-mark ws (λ q. omega arith)
