-- The lengths that an opening's tables must have, for settings that pass 4 with 64 thresholds.
use Rattle.std.specs.Prelude.{ℕ, Bool, true, false, Result, Ok, Err}
use Rattle.meaning.specs.Ledger.{Settings}
use Rattle.layout.specs.Settings.{settings_length}
use Rattle.layout.specs.Limits.{limits_of}
use Rattle.layout.specs.Lengths.{nodes_length, pages_length, sketches_length, working_length}
use Rattle.refusals.specs.Refusals.{number_of}
use Rattle.refusals.specs.declared.Refusal.{Refusal}
use Rattle.fresh_tables.specs.declared.lengths.Lengths.{Lengths}

-- what the call for the lengths tells: 0 and the lengths, or the number of the question that says no and zeros
pub record Told : Type 0 where
  pub number : ℕ
  pub settings : ℕ
  pub nodes : ℕ
  pub pages : ℕ
  pub sketches : ℕ
  pub working : ℕ

abbrev pub refused : ℕ → Told
refused n = record { number = n; settings = 0; nodes = 0; pages = 0; sketches = 0; working = 0 }

abbrev pub no_lengths : Told
no_lengths = refused 4

-- one of two answers, by a test
abbrev pub pick : Bool → Told → Told → Told
pick true a b = a
pick false a b = b

unfoldable pub lengths_of : Settings → Told
lengths_of s =
    pick (limits_of s.bits s.symbols s.blocks s.pages s.nodes 64)
    (record {
      number = 0;
      settings = settings_length;
      nodes = nodes_length s;
      pages = pages_length s;
      sketches = sketches_length s;
      working = working_length s;
    })
    no_lengths

-- what an answer of the code tells
abbrev pub told : Result Lengths Refusal → Told
told (Ok l) =
    record {
      number = 0;
      settings = l.settings;
      nodes = l.nodes;
      pages = l.pages;
      sketches = l.sketches;
      working = l.working;
    }
told (Err r) = refused (number_of r)
