-- Questions 5, 6, 8 and 9 of a drop, by the answers on the way.
use Rattle.std.specs.Prelude.{Ok, Err}
use Prim.Native.Nat.{ℕ}
use mathlib.Core.Path.{◌≡◌, sym, ap, ◌∙◌}
use mathlib.Core.Bool.{true}
use mathlib.Core.Logic.{◌≢◌}
use mathlib.Core.List.{List, []}
use Rattle.meaning.specs.Refusal.{Question, first_no}
use Rattle.meaning.specs.Ledger.{drop}
use Rattle.layout.specs.declared.Numbers.{Numbers}
use Rattle.promises.specs.Tables.{Tables, tables, given}
use Rattle.entry.specs.Entry.{store_entry, page_asked}
use Rattle.entry.specs.Admission.{admission}
use Rattle.entry.proofs.Admits.{first-refused, same-header, then-refused, then-shown}
use Rattle.drop_laws.proofs.Admitted.{drop-asked}

module _ (ws nodes pages sketches : List ℕ) (p : ℕ) where
  abbrev T : Tables
  T = tables ws nodes pages sketches []

  abbrev page89 : ℕ → List Question
  page89 cap = page_asked cap pages p true

  pub admit-refused : (n : ℕ) → store_entry T ≡ Err n → Err n ≡ admission T (drop p)
  admit-refused n e = first-refused T (drop p) (page89 (given T).pages) (drop-asked T p) n e

  module _ (h : Numbers) (e : store_entry T ≡ Ok h) (n : ℕ) (asked : n ≡ first_no (page89 h.pages)) where
    by-header : first_no (page89 (given T).pages) ≡ n
    by-header =
        ap (λ (g : Numbers). first_no (page89 g.pages)) (same-header T h e) ∙ sym asked

    pub admit-page : n ≢ 0 → Err n ≡ admission T (drop p)
    admit-page d = then-refused T (drop p) (page89 (given T).pages) (drop-asked T p) h e n by-header d

    pub admit-all : n ≡ 0 → Ok h ≡ admission T (drop p)
    admit-all z = then-shown T (drop p) (page89 (given T).pages) (drop-asked T p) h e (by-header ∙ z)
