-- What an add that no question refuses tells: of the opening, the tables, the page and the sketch.
use Prim.Native.Nat.{ℕ, ◌≤◌, ◌<◌}
use native.Mathlib.Omega.{arith}
use mathlib.Core.Path.{◌≡◌, refl, sym, ap, ◌∙◌}
use mathlib.Core.Bool.{Bool, true, false, not, and-false}
use mathlib.Core.List.{List, [], ◌∷◌, ◌++◌}
use borrow.Author.Tests.{ltb-true, leb-true, le-leb, eqb-true, not-true}
use lib.Dec.{ltb, leb, eqb}
use lib.ListN.{length}
use Rattle.meaning.specs.Lists.{sum}
use Rattle.meaning.specs.Refusal.{Question, ask, first_no}
use Rattle.meaning.specs.Sketch.{in_range, blank}
use Rattle.meaning.specs.Trie.{Tree}
use Rattle.meaning.specs.Ledger.{add}
use Rattle.meaning.specs.Forest.{each_from, forest_after, total_nodes}
use Rattle.meaning.specs.Questions.{asked}
use Rattle.layout.specs.declared.Numbers.{Numbers}
use Rattle.layout.specs.Header.{header_of}
use Rattle.layout.specs.Pages.{is_live}
use Rattle.promises.specs.Tables.{Tables, given, rows_of, by_tables}
use Rattle.promises.specs.Answers.{number, entered, shown56, long_settings, long_for}
use Rattle.promises.specs.Sound.{live_page}
use Rattle.entry.specs.Entry.{store_asked, page_asked}
use Rattle.entry.proofs.Questions.{all_yes, none_first, pass-first}
use Rattle.entry.proofs.Admits.{Opened, opened}

pub record Accepted (T : Tables) (F : List Tree) (p c : ℕ) (x : List ℕ) : Type 0 where
  pub opened : Opened T
  pub class : c < 64
  pub page : p < (given T).pages
  pub dead : live_page T p ≡ false
  pub count : length x ≡ (given T).symbols
  pub range : in_range (given T).bits x ≡ true
  pub room : total_nodes (forest_after (given T) (rows_of T) (add p c x) F) ≤ (given T).nodes

module _ (T : Tables) (p c : ℕ) (x : List ℕ) where
  -- 10, 11 and 15 of an opening, then others
  abbrev pub sketch_asked : Numbers → List Question → List Question
  sketch_asked h qs = ask 10 (eqb (length x) h.m) ∷ ask 11 (in_range h.b x) ∷ ask 15 (not (blank x)) ∷ qs

  -- 7 to 11, and 15
  abbrev pub call_asked : Numbers → List Question → List Question
  call_asked h qs = ask 7 (ltb c 64) ∷ (page_asked h.pages T.pages p false ++ sketch_asked h qs)

  -- 12, with the tries F
  abbrev pub room12 : List Tree → Bool
  room12 F = leb (total_nodes (forest_after (given T) (rows_of T) (add p c x) F)) (given T).nodes

  module _ (F : List Tree) where
    pub number_by : number T F (add p c x) ≡ first_no (store_asked T ++ call_asked (header_of (given T)) (ask 12 (room12 F) ∷ []))
    unfolding number entered shown56 long_settings long_for asked by_tables store_asked page_asked
    number_by = refl

    pub accepted : number T F (add p c x) ≡ 0 → Accepted T F p c x
    unfolding live_page store_asked page_asked
    accepted e =
        let z = sym number_by ∙ e in
        let qs : List Question = call_asked (header_of (given T)) (ask 12 (room12 F) ∷ []) in
        let none = none_first (store_asked T) qs z in
        let a = all_yes qs (omega arith) (sym (pass-first (store_asked T) qs (omega arith) none) ∙ z) in
        record {
          opened = opened T none;
          class = ltb-true c 64 search;
          page = ltb-true p (given T).pages search;
          dead = rw (not-true (is_live T.pages p) search) (and-false (ltb p (given T).pages));
          count = eqb-true (length x) (given T).symbols search;
          range = search;
          room = leb-true (total_nodes (forest_after (given T) (rows_of T) (add p c x) F)) (given T).nodes search;
        }

  -- with no tries 12 is passed
  room-none : room12 [] ≡ true
  unfolding forest_after each_from total_nodes sum
  room-none = le-leb 0 (given T).nodes (omega arith)

  pub number-none : number T [] (add p c x) ≡ first_no (store_asked T ++ call_asked (header_of (given T)) (ask 12 true ∷ []))
  number-none = number_by [] ∙ ap (λ (t : Bool). first_no (store_asked T ++ call_asked (header_of (given T)) (ask 12 t ∷ []))) room-none
