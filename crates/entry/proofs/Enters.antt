-- 5 and 6 of a call that takes all the tables: by the tests on the way, and what an opening that they show tells.
use Rattle.std.specs.Prelude.{Ok, Err}
use Prim.Native.Nat.{ℕ, ◌≤◌}
use native.Mathlib.Omega.{arith}
use mathlib.Core.Path.{◌≡◌, refl, sym, ap, ◌∙◌}
use mathlib.Core.Bool.{Bool, true, false, cond, ◌&&◌}
use mathlib.Core.Logic.{◌≢◌}
use mathlib.Core.List.{List, [], ◌∷◌}
use borrow.Author.Tests.{ne_eqb, leb-true}
use lib.Dec.{leb, eqb}
use lib.ListN.{length}
use Rattle.meaning.specs.Refusal.{ask, first_no}
use Rattle.meaning.specs.Ledger.{Settings}
use Rattle.meaning.proofs.Lists.{and_first, and_second}
use Rattle.layout.specs.declared.Numbers.{Numbers}
use Rattle.layout.specs.Header.{header_of, bare}
use Rattle.layout.specs.Limits.{HeaderLimits}
use Rattle.layout.specs.Settings.{settings_length, shows_opening}
use Rattle.layout.specs.Lengths.{nodes_length, pages_length, sketches_length, working_length}
use Rattle.layout.specs.Working.{map_words, summary_words}
use Rattle.layout.proofs.Openings.{shown, shows}
use Rattle.promises.specs.Tables.{Tables, tables, given}
use Rattle.promises.specs.Answers.{long_nodes, long_pages, long_working}
use Rattle.entry.specs.Entry.{store_asked, store_entry, tables_asked, entry}
use Rattle.entry.proofs.Questions.{all_yes}
use Rattle.entry.proofs.Admits.{shown-none, same-header}
use Rattle.entry.proofs.Told.{tell-refused, tell-shown, told-refused, told-shown}

module _ (ws nodes pages sketches working : List ℕ) where
  abbrev T : Tables
  T = tables ws nodes pages sketches working

  abbrev store : Tables
  store = tables ws nodes pages sketches []

  -- of the store first, then of the working table
  asked-last : first_no (tables_asked T) ≡ cond (eqb (first_no (store_asked store)) 0) (cond (long_working (given T) T) 0 6) (first_no (store_asked store))
  unfolding tables_asked store_asked long_nodes long_pages first_no
  asked-last =
      go (leb settings_length (length ws)) (shows_opening ws) (long_nodes (given T) T) (long_pages (given T) T) (long_working (given T) T)
    where
      go : (five six a b w : Bool) → first_no (ask 5 five ∷ ask 6 (six && (a && b && w)) ∷ [])
          ≡ cond (eqb (first_no (ask 5 five ∷ ask 6 (six && (a && b)) ∷ [])) 0) (cond w 0 6) (first_no (ask 5 five ∷ ask 6 (six && (a && b)) ∷ []))
      go false six a b w = refl
      go true false a b w = refl
      go true true false b w = refl
      go true true true false w = refl
      go true true true true w = refl

  pub enter-refused : (n : ℕ) → store_entry store ≡ Err n → Err n ≡ entry T
  unfolding store_entry entry
  enter-refused n e =
      let r = told-refused store (first_no (store_asked store)) n e in
      tell-refused T (first_no (tables_asked T)) n (asked-last ∙ rw (ne_eqb (first_no (store_asked store)) 0 (λ z. r.1 (sym r.0 ∙ z))) r.0) r.1

  module _ (h : Numbers) (e : store_entry store ≡ Ok h) where
    abbrev working_is_long : Bool
    working_is_long = leb (working_length (bare h)) (length working)

    by-header : first_no (tables_asked T) ≡ cond working_is_long 0 6
    unfolding long_working working_length map_words summary_words
    by-header =
        asked-last
        ∙ rw (shown-none store h e) (ap (λ (g : Numbers). cond (leb (working_length (bare g)) (length working)) 0 6) (same-header store h e))

    pub enter-short : working_is_long ≡ false → Err 6 ≡ entry T
    unfolding entry
    enter-short a = tell-refused T (first_no (tables_asked T)) 6 (by-header ∙ rw a) (omega arith)

    pub enter-all : working_is_long ≡ true → Ok h ≡ entry T
    unfolding entry
    enter-all a = tell-shown T (first_no (tables_asked T)) h (same-header store h e) (by-header ∙ rw a)

-- ---- what the answer tells
pub entry-refused : (T : Tables) (n : ℕ) → entry T ≡ Err n → (first_no (tables_asked T) ≡ n) × (n ≢ 0)
unfolding entry
entry-refused T n e = told-refused T (first_no (tables_asked T)) n e

-- the opening and the tables that pass
pub record Entered (T : Tables) (h : Numbers) : Type 0 where
  pub none : first_no (tables_asked T) ≡ 0
  pub header : header_of (given T) ≡ h
  pub limits : HeaderLimits h
  pub settings-long : settings_length ≤ length T.settings
  pub nodes-long : nodes_length (bare h) ≤ length T.nodes
  pub pages-long : pages_length (bare h) ≤ length T.pages
  pub sketches-long : sketches_length (bare h) ≤ length T.sketches
  pub working-long : working_length (bare h) ≤ length T.working

module _ (T : Tables) where
  entered-first : first_no (tables_asked T) ≡ 0 → Entered T (header_of (given T))
  unfolding tables_asked long_nodes long_pages long_working nodes_length pages_length sketches_length working_length map_words summary_words
  entered-first z =
      let s : Settings = given T in
      let yes = all_yes (tables_asked T) (omega arith) z in
      let five = leb-true settings_length (length T.settings) yes.0 in
      let opening = shows T.settings five (search (and_first, and_second)) in
      record {
        none = z;
        header = refl;
        limits = (shown T.settings _ opening).limits;
        settings-long = five;
        nodes-long = leb-true (nodes_length s) (length T.nodes) (search (and_first, and_second));
        pages-long = leb-true (pages_length s) (length T.pages) (search (and_first, and_second));
        sketches-long = leb-true (sketches_length s) (length T.sketches) (search (and_first, and_second));
        working-long = leb-true (working_length s) (length T.working) (search (and_first, and_second));
      }

  pub entry-shown : (h : Numbers) → entry T ≡ Ok h → Entered T h
  unfolding entry
  entry-shown h e =
      let t = told-shown T (first_no (tables_asked T)) h e in
      rw t.1 at (entered-first t.0)
