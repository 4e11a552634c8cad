-- What 5 and 6, all the questions of a check, tell it.
use Rattle.std.specs.Prelude.{Ok, Err}
use Prim.Native.Nat.{ℕ, ◌≤◌}
use native.Mathlib.Omega.{arith}
use mathlib.Core.Path.{◌≡◌, refl, sym, ◌∙◌}
use mathlib.Core.Logic.{◌≢◌}
use mathlib.Core.List.{[]}
use lib.ListN.{length}
use Rattle.meaning.specs.Refusal.{first_no}
use Rattle.meaning.specs.Ledger.{check, reading}
use Rattle.meaning.specs.Questions.{asked}
use Rattle.layout.specs.declared.Numbers.{Numbers}
use Rattle.layout.specs.Header.{header_of, bare}
use Rattle.layout.specs.Limits.{HeaderLimits}
use Rattle.layout.specs.Lengths.{working_length}
use Rattle.layout.specs.Settings.{settings_length}
use Rattle.layout.specs.Working.{map_words}
use Rattle.layout.specs.Tables.{Lent}
use Rattle.layout.proofs.Sizes.{SameLengths, same-lengths, map-most}
use Rattle.promises.specs.Tables.{Tables, given}
use Rattle.promises.specs.Answers.{number, entered, shown56, long_settings, long_for}
use Rattle.entry.specs.Entry.{tables_asked, entry}
use Rattle.entry.proofs.Enters.{Entered, entry-refused, entry-shown}

pub record Admitted (T : Tables) (h : Numbers) : Type 0 where
  pub answers : number T [] (reading check) ≡ 0
  pub header : header_of (given T) ≡ h
  pub settings : settings_length ≤ length T.settings
  pub lent : Lent (header_of (given T)) T.nodes T.pages T.sketches
  pub working : working_length (given T) ≤ length T.working

module _ (T : Tables) where
  -- 5 and 6 are all that is asked
  pub first-number : first_no (entered T (reading check)) ≡ number T [] (reading check)
  unfolding number entered shown56 asked
  first-number = refl

  asked-first : number T [] (reading check) ≡ first_no (tables_asked T)
  unfolding number entered shown56 long_settings long_for asked tables_asked
  asked-first = refl

  pub admitted : (h : Numbers) → entry T ≡ Ok h → Admitted T h
  admitted h e =
      let o : Entered T h = entry-shown T h e in
      let same : SameLengths (given T) h = same-lengths (given T) h o.header in
      record {
        answers = asked-first ∙ o.none;
        header = o.header;
        settings = o.settings-long;
        lent =
            rw o.header
            (record { limits = o.limits; nodes-long = o.nodes-long; pages-long = o.pages-long; sketches-long = o.sketches-long });
        working = omega (arith, same.working, o.working-long);
      }

  pub record Rejected (n : ℕ) : Type 0 where
    pub answers : n ≡ number T [] (reading check)
    pub some : number T [] (reading check) ≢ 0

  pub rejected : (n : ℕ) → entry T ≡ Err n → Rejected n
  rejected n e =
      let r = entry-refused T n e in
      let same : number T [] (reading check) ≡ n = asked-first ∙ r.0 in
      record { answers = sym same; some = λ z. r.1 (sym same ∙ z) }

-- as the code has the header
module _ (T : Tables) (h : Numbers) (a : Admitted T h) where
  abbrev same : SameLengths (given T) h
  same = same-lengths (given T) h a.header

  pub lent-header : Lent h T.nodes T.pages T.sketches
  lent-header = rw (← a.header) a.lent

  pub header-limits : HeaderLimits h
  header-limits = lent-header.limits

  pub words-most : map_words (bare h) ≤ 2048
  words-most = map-most (bare h) header-limits

  pub words-fit : map_words (bare h) ≤ working_length (bare h)
  unfolding working_length
  words-fit = omega arith

  pub working-long : working_length (bare h) ≤ length T.working
  working-long = omega (arith, same.working, a.working)
