-- The steps of an add past 15, as the code takes them.
use Rattle.std.specs.Prelude.{Option, Some, None, Result, Ok, Err}
use Prim.Native.Nat.{ℕ}
use mathlib.Core.Path.{◌≡◌, sym, ap, ◌∙◌}
use mathlib.Core.Bool.{true}
use mathlib.Core.List.{List}
use lib.ListN.{get_or, set}
use Rattle.meaning.specs.Sketch.{in_range}
use Rattle.meaning.specs.Ledger.{add}
use Rattle.layout.specs.declared.Numbers.{Numbers}
use Rattle.layout.specs.Settings.{free_at}
use Rattle.layout.specs.Header.{header_of, with_thresholds}
use Rattle.layout.specs.Pages.{with_row, with_page}
use Rattle.layout.specs.Signature.{signature}
use Rattle.trie.specs.declared.Stop.{Stop}
use Rattle.trie.specs.declared.Stop.TheVariants.{Full, Broken}
use Rattle.promises.specs.Tables.{Tables, tables, given}
use Rattle.promises.specs.Store.{outcome}
use Rattle.blocks.specs.RowBytes.{reduced}
use Rattle.signature.proofs.Rows.{signature-same}
use Rattle.entry.specs.Admission.{admission}
use Rattle.add_laws.specs.Room.{room_of}
use Rattle.add_laws.specs.Insert.{filled, insert_all}
use Rattle.add_laws.specs.Add.{row_added, page_written, on_filled, put_page, on_room, place_page, on_opening, add_page}
use Rattle.add_laws.proofs.Passed.{same-settings}

module _ (T : Tables) (h : Numbers) (header : header_of (given T) ≡ h) (p c : ℕ) (x τ : List ℕ) (levels : τ ≡ (given T).thresholds)
    (free : ℕ) (link : free ≡ get_or T.settings free_at 0) where
  -- question 12
  module _ (q : Result (Unit {0}) Stop) (e : q ≡ room_of (with_thresholds h τ) T.nodes T.pages T.sketches x free) where
    answered : on_room T p c x q ≡ place_page T p c x
    unfolding place_page
    answered = ap (on_room T p c x) (rw (same-settings T h τ header levels, link) at e)

    pub place_short : q ≡ Err Full → outcome 12 T ≡ place_page T p c x
    place_short m = rw m at answered

    pub place-broken : q ≡ Err Broken → outcome 14 T ≡ place_page T p c x
    place-broken m = rw m at answered

    pub place-enough : q ≡ Ok tt → put_page T p c x ≡ place_page T p c x
    place-enough m = rw m at answered

  -- the row is written, and the page is put into each trie
  module _ (S : List ℕ) (row : S ≡ with_row h.m T.sketches p x) (N P : List ℕ) (i : Option ℕ)
      (e : filled N P i ≡ insert_all (with_thresholds h τ) S x p T.nodes T.pages free) where
    rowed : S ≡ row_added T p c x
    rowed = row ∙ ap (λ (g : Numbers). with_row g.m T.sketches p x) (sym header)

    inserted : on_filled T p c x (filled N P i) ≡ put_page T p c x
    unfolding put_page
    inserted = ap (on_filled T p c x) (rw (same-settings T h τ header levels, rowed, link) at e)

    pub put-broken : i ≡ None → outcome 14 (tables T.settings N P S T.working) ≡ put_page T p c x
    put-broken m = rw rowed (rw m at inserted)

    pub put-free : (l : ℕ) → i ≡ Some l → (ws : List ℕ) → ws ≡ set T.settings free_at l →
        in_range h.b x ≡ true → (g : ℕ) → g ≡ signature h.b (reduced h.b x) → (P' : List ℕ) → P' ≡ with_page h.pages P p c g →
        outcome 0 (tables ws N P' S T.working) ≡ put_page T p c x
    put-free l m ws w range g stored P' f =
        let written : P' ≡ page_written T p c x P =
        f ∙ ap (with_page h.pages P p c) (stored ∙ signature-same h.b x range)
        ∙ ap (λ (k : Numbers). with_page k.pages P p c (signature k.b x)) (sym header) in
        rw (rowed, w, written) (rw m at inserted)

-- 5 to 11 and 15
module _ (T : Tables) (p c : ℕ) (x : List ℕ) (o : Result Numbers ℕ) (e : o ≡ admission T (add p c x)) where
  told : on_opening T p c x o ≡ add_page T p c x
  unfolding add_page
  told = ap (on_opening T p c x) e

  pub add-refused : (n : ℕ) → o ≡ Err n → outcome n T ≡ add_page T p c x
  add-refused n m = rw m at told

  pub add-placed : (h : Numbers) → o ≡ Ok h → place_page T p c x ≡ add_page T p c x
  add-placed h m = rw m at told
