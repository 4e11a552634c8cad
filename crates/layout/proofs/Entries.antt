-- A reader's entry: what a write to it changes, and what it leaves.
use Prim.Native.Nat.{ℕ, ◌≤◌, ◌<◌}
use native.Mathlib.Omega.{arith}
use mathlib.Core.Path.{◌≡◌, ◌∙◌}
use mathlib.Core.Logic.{◌≢◌}
use mathlib.Core.List.{List}
use lib.ListN.{length, set, take, drop, length-set}
use lib.Seq.{get_or-set_same, get_or-set_other, take-set-le, drop-set-lt, set-get_or}
use Rattle.layout.specs.Settings.{settings_length, entries_at, free_at}
use Rattle.layout.specs.Entries.{low_at, high_at, low_of, high_of, with_entry}

module _ (ws : List ℕ) (r low high : ℕ) where
  pub entry_length : length (with_entry ws r low high) ≡ length ws
  unfolding with_entry
  entry_length = length-set (set ws (low_at r) low) (high_at r) high ∙ length-set ws (low_at r) low

  -- what stands before the entries, and from the free link on
  pub entry-front : take entries_at (with_entry ws r low high) ≡ take entries_at ws
  unfolding with_entry
  entry-front =
      take-set-le entries_at (set ws (low_at r) low) (high_at r) high (omega arith)
      ∙ take-set-le entries_at ws (low_at r) low (omega arith)

  pub entry-rest : r < 256 → drop free_at (with_entry ws r low high) ≡ drop free_at ws
  unfolding with_entry
  entry-rest h =
      drop-set-lt free_at (set ws (low_at r) low) (high_at r) high (omega arith)
      ∙ drop-set-lt free_at ws (low_at r) low (omega arith)

  -- the reader's own words
  module _ (long : settings_length ≤ length ws) (h : r < 256) where
    pub low_same : low_of (with_entry ws r low high) r ≡ low
    unfolding low_of with_entry
    low_same =
        get_or-set_other (set ws (low_at r) low) (high_at r) (low_at r) high 0 (λ e. omega arith)
        ∙ get_or-set_same ws (low_at r) low 0 (omega arith)

    pub high_same : high_of (with_entry ws r low high) r ≡ high
    unfolding high_of with_entry
    high_same = get_or-set_same (set ws (low_at r) low) (high_at r) high 0 (simp length-set (omega arith))

  -- another reader's
  module _ (s : ℕ) (other : s ≢ r) where
    pub low-other : low_of (with_entry ws r low high) s ≡ low_of ws s
    unfolding low_of with_entry
    low-other =
        get_or-set_other (set ws (low_at r) low) (high_at r) (low_at s) high 0 (λ e. omega arith)
        ∙ get_or-set_other ws (low_at r) (low_at s) low 0 (λ e. other (omega arith))

    pub high-other : high_of (with_entry ws r low high) s ≡ high_of ws s
    unfolding high_of with_entry
    high-other =
        get_or-set_other (set ws (low_at r) low) (high_at r) (high_at s) high 0 (λ e. other (omega arith))
        ∙ get_or-set_other ws (low_at r) (high_at s) low 0 (λ e. omega arith)

-- the entry that is there already: nothing is changed
pub entry-own : (ws : List ℕ) (r : ℕ) → with_entry ws r (low_of ws r) (high_of ws r) ≡ ws
unfolding with_entry low_of high_of
entry-own ws r = rw (set-get_or ws (low_at r) 0) (set-get_or ws (high_at r) 0)
