-- What a drop knows past its questions.
use Prim.Native.Nat.{ℕ, ◌+◌, ◌*◌, ◌≤◌, ◌<◌}
use native.Mathlib.Omega.{arith}
use mathlib.Core.Path.{◌≡◌, refl, sym, ◌∙◌}
use mathlib.Core.Bool.{true}
use mathlib.Core.List.{List, [], ◌++◌}
use borrow.Author.Tests.{ltb-true}
use lib.ListN.{length}
use Rattle.meaning.specs.Refusal.{first_no}
use Rattle.meaning.specs.Trie.{Tree}
use Rattle.meaning.specs.Ledger.{drop}
use Rattle.meaning.specs.Questions.{asked}
use Rattle.layout.specs.Lengths.{pages_length, sketches_length}
use Rattle.layout.specs.Pages.{is_live}
use Rattle.layout.proofs.Rows.{row_inside}
use Rattle.layout.proofs.Words.{signature-inside}
use Rattle.promises.specs.Tables.{Tables, given, by_tables}
use Rattle.promises.specs.Answers.{number, entered, shown56, long_settings, long_for}
use Rattle.entry.specs.Entry.{store_asked, page_asked}
use Rattle.entry.proofs.Questions.{all_yes, none_first, pass-first}
use Rattle.entry.proofs.Admits.{Opened, opened}

pub record Admitted (T : Tables) (p : ℕ) : Type 0 where
  pub opened : Opened T
  pub page : p < (given T).pages
  pub live : is_live T.pages p ≡ true

-- no question of a drop hangs on the tries
pub number_same : (T : Tables) (F : List Tree) (p : ℕ) → number T F (drop p) ≡ number T [] (drop p)
unfolding number asked by_tables
number_same T F p = refl

module _ (T : Tables) (p : ℕ) where
  pub drop-asked : number T [] (drop p) ≡ first_no (store_asked T ++ page_asked (given T).pages T.pages p true)
  unfolding number entered shown56 long_settings long_for asked by_tables store_asked page_asked
  drop-asked = refl

  pub admitted : number T [] (drop p) ≡ 0 → Admitted T p
  unfolding store_asked page_asked
  admitted z =
      let e = sym drop-asked ∙ z in
      let none = none_first (store_asked T) (page_asked (given T).pages T.pages p true) e in
      let yes = all_yes (page_asked (given T).pages T.pages p true) (omega arith)
      (sym (pass-first (store_asked T) (page_asked (given T).pages T.pages p true) (omega arith) none) ∙ e) in
      record { opened = opened T none; page = ltb-true p (given T).pages yes.0; live = yes.1.0 }

module _ (T : Tables) (p : ℕ) (a : Admitted T p) where
  pub row_in : p * (given T).symbols + (given T).symbols ≤ length T.sketches
  unfolding sketches_length
  row_in = row_inside (given T).symbols (given T).pages (length T.sketches) a.page a.opened.lent.sketches-long

  pub words-in : (given T).pages + p < length T.pages
  unfolding pages_length
  words-in = omega (arith, signature-inside (given T) a.page, a.opened.lent.pages-long)
