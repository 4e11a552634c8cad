-- Questions 5 to 11 and 15 of an add, by the answers on the way.
use Rattle.std.specs.Prelude.{Ok, Err}
use Prim.Native.Nat.{ℕ, ◌≤◌, ◌<◌}
use native.Mathlib.Omega.{arith}
use mathlib.Core.Path.{◌≡◌, sym, ap, ◌∙◌}
use mathlib.Core.Bool.{true, false}
use mathlib.Core.Logic.{◌≢◌}
use mathlib.Core.List.{List, [], ◌∷◌, ◌++◌}
use borrow.Author.Tests.{lt-ltb, le-ltb, eq-eqb, ne_eqb}
use lib.ListN.{length}
use Rattle.meaning.specs.Refusal.{Question, ask, first_no}
use Rattle.meaning.specs.Sketch.{in_range, blank}
use Rattle.meaning.specs.Ledger.{add}
use Rattle.layout.specs.declared.Numbers.{Numbers}
use Rattle.layout.specs.Header.{header_of}
use Rattle.promises.specs.Tables.{Tables, tables, given}
use Rattle.entry.specs.Entry.{store_entry, page_asked}
use Rattle.entry.specs.Admission.{admission}
use Rattle.entry.proofs.Questions.{pass-first, stop-first}
use Rattle.entry.proofs.Admits.{first-refused, same-header, then-refused, then-shown}
use Rattle.add_laws.proofs.KeepsAsked.{sketch_asked, call_asked, number-none}

module _ (ws nodes pages sketches : List ℕ) (p c : ℕ) (x : List ℕ) where
  abbrev T : Tables
  T = tables ws nodes pages sketches []

  -- behind 6, and behind 9
  abbrev past6 : Numbers → List Question
  past6 h = call_asked T p c x h (ask 12 true ∷ [])

  abbrev past9 : Numbers → List Question
  past9 h = sketch_asked T p c x h (ask 12 true ∷ [])

  pub admit-refused : (n : ℕ) → store_entry T ≡ Err n → Err n ≡ admission T (add p c x)
  admit-refused n e = first-refused T (add p c x) (past6 (header_of (given T))) (number-none T p c x) n e

  module _ (h : Numbers) (e : store_entry T ≡ Ok h) where
    by-header : first_no (past6 (header_of (given T))) ≡ first_no (past6 h)
    by-header = ap (λ (g : Numbers). first_no (past6 g)) (same-header T h e)

    refused-by : (n : ℕ) → first_no (past6 h) ≡ n → n ≢ 0 → Err n ≡ admission T (add p c x)
    refused-by n f d = then-refused T (add p c x) (past6 (header_of (given T))) (number-none T p c x) h e n (by-header ∙ f) d

    pub admit-7 : 64 ≤ c → Err 7 ≡ admission T (add p c x)
    unfolding first_no
    admit-7 l = refused-by 7 (rw (le-ltb c 64 l)) (omega arith)

    module _ (l : c < 64) (n : ℕ) (asked : n ≡ first_no (page_asked h.pages pages p false)) where
      at-page : first_no (past6 h) ≡ first_no (page_asked h.pages pages p false ++ past9 h)
      unfolding first_no
      at-page = rw (lt-ltb c 64 l)

      pub admit-page : n ≢ 0 → Err n ≡ admission T (add p c x)
      admit-page d =
          refused-by n (at-page ∙ stop-first (page_asked h.pages pages p false) (past9 h) (λ z. d (asked ∙ z)) ∙ sym asked) d

      module _ (z : n ≡ 0) where
        at-sketch : first_no (past6 h) ≡ first_no (past9 h)
        unfolding page_asked
        at-sketch = at-page ∙ pass-first (page_asked h.pages pages p false) (past9 h) (omega arith) (sym asked ∙ z)

        pub admit-10 : length x ≢ h.m → Err 10 ≡ admission T (add p c x)
        unfolding first_no
        admit-10 d = refused-by 10 (at-sketch ∙ rw (ne_eqb (length x) h.m d)) (omega arith)

        module _ (count : length x ≡ h.m) where
          pub admit-11 : in_range h.b x ≡ false → Err 11 ≡ admission T (add p c x)
          unfolding first_no
          admit-11 r = refused-by 11 (at-sketch ∙ rw (eq-eqb (length x) h.m count, r)) (omega arith)

          module _ (range : in_range h.b x ≡ true) where
            pub admit-15 : blank x ≡ true → Err 15 ≡ admission T (add p c x)
            unfolding first_no
            admit-15 r = refused-by 15 (at-sketch ∙ rw (eq-eqb (length x) h.m count, range, r)) (omega arith)

            pub admit-all : blank x ≡ false → Ok h ≡ admission T (add p c x)
            unfolding first_no
            admit-all r =
                then-shown T (add p c x) (past6 (header_of (given T))) (number-none T p c x) h e
                (by-header ∙ at-sketch ∙ rw (eq-eqb (length x) h.m count, range, r))
