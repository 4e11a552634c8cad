-- What the questions of an add tell where none says no, and what 12 adds to those ahead of it.
use Rattle.std.specs.Prelude.{Ok}
use Prim.Native.Nat.{ℕ, ◌+◌, ◌*◌, ◌≤◌, ◌<◌}
use native.Mathlib.Omega.{arith}
use mathlib.Core.Path.{◌≡◌, refl, sym, ap, ◌∙◌}
use mathlib.Core.Bool.{false, cond}
use mathlib.Core.Logic.{◌≢◌}
use mathlib.Core.List.{List, [], ◌++◌}
use borrow.Author.Tests.{ne_eqb}
use lib.Dec.{eqb}
use lib.ListN.{length}
use Rattle.meaning.specs.Trie.{Tree}
use Rattle.meaning.specs.Ledger.{add}
use Rattle.layout.specs.declared.Numbers.{Numbers}
use Rattle.layout.specs.Settings.{settings_length}
use Rattle.layout.specs.Header.{header_of, with_thresholds, bare}
use Rattle.layout.specs.Lengths.{sketches_length}
use Rattle.layout.specs.Pages.{with_row}
use Rattle.layout.proofs.Rows.{row_inside, length-with-row}
use Rattle.layout.proofs.Words.{signature-inside}
use Rattle.promises.specs.Tables.{Tables, given}
use Rattle.promises.specs.Answers.{number}
use Rattle.promises.specs.Sound.{live_page}
use Rattle.entry.specs.Entry.{store_asked, page_asked}
use Rattle.entry.proofs.Questions.{last-asked}
use Rattle.entry.proofs.Admits.{admission-shown}
use Rattle.entry.specs.Admission.{admission}
use Rattle.layout.specs.Tables.{Lent, Fits}
use Rattle.add_laws.proofs.KeepsAsked.{accepted, call_asked, room12, number_by, number-none}

-- no question of 5 to 11 and 15 says no
pub record Passed (T : Tables) (h : Numbers) (p : ℕ) (x : List ℕ) : Type 0 where
  pub header : header_of (given T) ≡ h
  pub long : settings_length ≤ length T.settings
  pub lent : Lent h T.nodes T.pages T.sketches
  pub levels : length (given T).thresholds ≡ 64
  pub fits : Fits h x
  pub page : p < h.pages
  pub dead : live_page T p ≡ false

module _ (T : Tables) (p c : ℕ) (x : List ℕ) where
  abbrev passes : Numbers → Type 0
  passes h = Passed T h p x

  pub passed : (F : List Tree) → number T F (add p c x) ≡ 0 → passes (header_of (given T))
  passed F z =
      let a = accepted T p c x F z in
      record {
        header = refl;
        long = a.opened.long;
        lent = a.opened.lent;
        levels = a.opened.levels;
        fits = record { count = a.count; range = a.range };
        page = a.page;
        dead = a.dead;
      }

  -- what `admit` tells
  pub told-shown : (h : Numbers) → admission T (add p c x) ≡ Ok h → (number T [] (add p c x) ≡ 0) × passes h
  told-shown h e = let t = admission-shown T (add p c x) h e in (t.0, rw t.1 at (passed [] t.0))

  -- 12 is asked last
  module _ (F : List Tree) where
    pub asked-last : number T F (add p c x) ≡ cond (eqb (number T [] (add p c x)) 0) (cond (room12 T p c x F) 0 12) (number T [] (add p c x))
    unfolding store_asked page_asked
    asked-last =
        number_by T p c x F
        ∙ last-asked (store_asked T ++ call_asked T p c x (header_of (given T)) []) (omega arith) 12 (room12 T p c x F)
        ∙ ap (λ (n : ℕ). cond (eqb n 0) (cond (room12 T p c x F) 0 12) n) (sym (number-none T p c x))

    pub asked-12 : number T [] (add p c x) ≡ 0 → number T F (add p c x) ≡ cond (room12 T p c x F) 0 12
    asked-12 z = asked-last ∙ rw z refl

    pub asked-ahead : number T [] (add p c x) ≢ 0 → number T F (add p c x) ≡ number T [] (add p c x)
    asked-ahead h = asked-last ∙ rw (ne_eqb (number T [] (add p c x)) 0 h) refl

-- the settings of the opening, from its header and the thresholds
pub same-settings : (T : Tables) (h : Numbers) (τ : List ℕ) → header_of (given T) ≡ h → τ ≡ (given T).thresholds → with_thresholds h τ ≡ given T
same-settings T h τ e f = rw (← e, f) refl

-- the tables with the page's row
pub row_fits : (T : Tables) (h : Numbers) (p : ℕ) (x : List ℕ) → Passed T h p x → p * h.m + h.m ≤ length T.sketches
unfolding sketches_length
row_fits T h p x ok = row_inside h.m h.pages (length T.sketches) ok.page ok.lent.sketches-long

pub lent_row : (T : Tables) (h : Numbers) (p : ℕ) (x : List ℕ) → Passed T h p x → (S : List ℕ) → S ≡ with_row h.m T.sketches p x →
    Lent h T.nodes T.pages S
lent_row T h p x ok S e = record {
  limits = ok.lent.limits;
  nodes-long = ok.lent.nodes-long;
  pages-long = ok.lent.pages-long;
  sketches-long = omega (arith, ok.lent.sketches-long, ap length e, length-with-row h.m T.sketches p (row_fits T h p x ok) x ok.fits.count);
}

-- the words of the page lie in the page table, also after the tries have changed
pub words-fit : (T : Tables) (h : Numbers) (p : ℕ) (x : List ℕ) → Passed T h p x → (P : List ℕ) → length P ≡ length T.pages → h.pages + p < length P
words-fit T h p x ok P e = omega (arith, signature-inside (bare h) ok.page, ok.lent.pages-long)
