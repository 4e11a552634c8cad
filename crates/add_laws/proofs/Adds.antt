-- `add_page` keeps the promise of an add.
use Rattle.std.specs.Prelude.{Option, Some, None, Result, Ok, Err}
use Rattle.layout.specs.declared.Numbers.{Numbers}
use Prim.Native.Nat.{ℕ, ◌+◌, ◌*◌, ◌<◌}
use native.Mathlib.Omega.{arith}
use mathlib.Core.Path.{◌≡◌, refl, sym, ap, ◌∙◌, subst}
use mathlib.Core.Bool.{Bool, true, false, cond}
use mathlib.Core.Logic.{◌≢◌, inl, inr}
use Rattle.trie.specs.declared.Stop.{Stop}
use Rattle.trie.specs.declared.Stop.TheVariants.{Full, Broken}
use mathlib.Core.List.{List, []}
use lib.ListN.{get_or, set, take}
use lib.Seq.{take-set-lt}
use Rattle.meaning.specs.Trie.{Tree}
use Rattle.meaning.specs.Ledger.{Settings, add}
use Rattle.layout.specs.Settings.{free_at}
use Rattle.layout.specs.Header.{header_of}
use Rattle.layout.specs.Lengths.{nodes_length, pages_length, sketches_length}
use Rattle.layout.specs.Pages.{with_page, links_at}
use Rattle.layout.specs.Signature.{signature}
use Rattle.layout.proofs.Rows.{length-with-row}
use Rattle.layout.proofs.Words.{page-inside, signature-inside}
use Rattle.blocks.specs.Tables.{RowTable}
use Rattle.blocks.specs.RowBytes.{rows_of as block_rows}
use Rattle.blocks.proofs.RowBytes.{rows-table}
use Rattle.blocks.proofs.BlockBytes.{octets}
use Rattle.blocks.proofs.Tables.{roomy}
use Rattle.promises.specs.Tables.{Tables, tables, given}
use Rattle.promises.specs.Answers.{number}
use Rattle.promises.specs.Sound.{Sound}
use Rattle.promises.specs.Store.{SameRest, Outcome, outcome, AddPromise}
use Rattle.store.specs.Within.{Within}
use Rattle.store.proofs.Within.{within_none, within_both, within-set, within-less}
use Rattle.store.proofs.Same.{same_tables, same-stopped}
use Rattle.entry.specs.Admission.{admission}
use Rattle.entry.proofs.Admits.{admission-refused}
use Rattle.add_laws.specs.Room.{room_of}
use Rattle.add_laws.specs.Insert.{Filled, filled, insert_all}
use Rattle.add_laws.specs.Add.{row_added, page_written, page_added, on_filled, put_page, on_room, place_page, on_opening, add_page}
use Rattle.add_laws.proofs.Passed.{Passed, passed, told-shown, asked-12, asked-ahead, row_fits, lent_row}
use Rattle.add_laws.proofs.Kept.{KeptF, all-kept}
use Rattle.add_laws.proofs.Question12.{room-right}
use Rattle.add_laws.proofs.KeepsAsked.{room12}
use Rattle.add_laws.proofs.KeepsAdd.{filled-sound, never-stopped}

-- ---- answers to question 12
abbrev room_by_test : Bool → Result (Unit {0}) Stop
room_by_test t = cond t (Ok tt) (Err Full)

is-short : (t : Bool) → room_by_test t ≡ Err Full → t ≡ false
is-short true e = let w : ◌≡◌ {A = ℕ} 0 1 = cc in absurd (omega arith)
is-short false e = refl

is-enough : (t : Bool) → room_by_test t ≡ Ok tt → t ≡ true
is-enough true e = refl
is-enough false e = let w : ◌≡◌ {A = ℕ} 0 1 = cc in absurd (omega arith)

never-broken : (t : Bool) → room_by_test t ≡ Err Broken → ⊥
never-broken true e = let w : ◌≡◌ {A = ℕ} 0 1 = cc in omega arith
never-broken false e = let w : ◌≡◌ {A = ℕ} 0 1 = cc in omega arith

-- ---- the page's word and signature
page-words : (n p c g : ℕ) → p < n → (A B : List ℕ) → take (2 * n) A ≡ take (2 * n) B → take (2 * n) (with_page n A p c g) ≡ take (2 * n) (with_page n B p c g)
unfolding with_page
page-words n p c g l A B e = first A ∙ ap (λ (w : List ℕ). set (set w p (1 + c)) (n + p) g) e ∙ sym (first B)
  where
    first : (W : List ℕ) → take (2 * n) (set (set W p (1 + c)) (n + p) g) ≡ set (set (take (2 * n) W) p (1 + c)) (n + p) g
    first W =
        take-set-lt (2 * n) (set W p (1 + c)) (n + p) g (omega arith)
        ∙ ap (λ (w : List ℕ). set w (n + p) g) (take-set-lt (2 * n) W p (1 + c) (omega arith))

page-within : (s : Settings) (p c g : ℕ) → p < s.pages → (P : List ℕ) → Within 0 (pages_length s) P (with_page s.pages P p c g)
unfolding with_page
page-within s p c g l P =
    within_both
    (within-set P p (1 + c) (omega arith) (page-inside s l))
    (within-set (set P p (1 + c)) (s.pages + p) g (omega arith) (signature-inside s l))

-- ---- the answers of `room` and of `insert_all`
abbrev room_found : Tables → List ℕ → Result (Unit {0}) Stop
room_found T x = room_of (given T) T.nodes T.pages T.sketches x (get_or T.settings free_at 0)

abbrev all_inserted : Tables → ℕ → ℕ → List ℕ → Filled
all_inserted T p c x = insert_all (given T) (row_added T p c x) x p T.nodes T.pages (get_or T.settings free_at 0)

module _ (T : Tables) (p c : ℕ) (x : List ℕ) where
  -- refused by 5 to 11 or 15
  pub promise-early : (n : ℕ) → number T [] (add p c x) ≡ n → n ≢ 0 → AddPromise T p c x n T
  promise-early n e h = record {
    early = λ g. sym e;
    sound = λ F s. record {
      answers = sym (asked-ahead T p c x F (λ z. h (sym e ∙ z)) ∙ e);
      tries = λ z. absurd (h z);
    };
    page = λ z. absurd (h z);
    refused = λ g k. refl;
    stopped = λ k. same-stopped T;
    stopped-row = λ k. inl refl;
    rest = same_tables T;
    late = λ z. absurd (h (sym e ∙ z));
  }

  module _ (z : number T [] (add p c x) ≡ 0) (ok : Passed T (header_of (given T)) p x) where
    -- question 12, on a sound store
    room_by : (F : List Tree) → Sound T F → room_found T x ≡ cond (room12 T p c x F) (Ok tt) (Err Full)
    room_by F s = room-right T F s (roomy (given T) T.nodes T.pages T.sketches ok.lent) p c x ok.fits.count ok.fits.range ok.dead

    pub promise-short : room_found T x ≡ Err Full → AddPromise T p c x 12 T
    promise-short e = record {
      early = λ g. absurd (g z);
      sound = λ F s. record {
        answers = sym (asked-12 T p c x F z ∙ ap (λ (t : Bool). cond t 0 12) (is-short (room12 T p c x F) (sym (room_by F s) ∙ e)));
        tries = λ g. absurd (omega arith);
      };
      page = λ g. absurd (omega arith);
      refused = λ g k. refl;
      stopped = λ k. same-stopped T;
      stopped-row = λ k. inl refl;
      rest = same_tables T;
      late = λ g. inr (inl refl);
    }

    pub promise-broken : room_found T x ≡ Err Broken → AddPromise T p c x 14 T
    promise-broken e = record {
      early = λ g. absurd (g z);
      sound = λ F s. absurd (never-broken (room12 T p c x F) (sym (room_by F s) ∙ e));
      page = λ g. absurd (omega arith);
      refused = λ g k. absurd (k refl);
      stopped = λ k. same-stopped T;
      stopped-row = λ k. inl refl;
      rest = same_tables T;
      late = λ g. inr (inr refl);
    }

    -- there is room
    module _ (e : room_found T x ≡ (Ok tt)) (N P : List ℕ) (i : Option ℕ) (f : all_inserted T p c x ≡ filled N P i) where
      none : (F : List Tree) → Sound T F → number T F (add p c x) ≡ 0
      none F s = asked-12 T p c x F z ∙ ap (λ (t : Bool). cond t 0 12) (is-enough (room12 T p c x F) (sym (room_by F s) ∙ e))

      rows : (j : ℕ) → j < (given T).blocks → RowTable (given T).pages (block_rows (given T) j) (row_added T p c x)
      unfolding sketches_length
      rows j l =
          rows-table (given T) j l (given T).pages (row_added T p c x) (omega (arith, ok.lent.limits)) ok.lent.limits.symbols-most
          (lent_row T (header_of (given T)) p x ok (row_added T p c x) refl).sketches-long

      kept : KeptF (given T).nodes (links_at (given T).pages) (pages_length (given T)) T.nodes T.pages (filled N P i)
      kept =
          subst (KeptF (given T).nodes (links_at (given T).pages) (pages_length (given T)) T.nodes T.pages) f
          (all-kept (given T) (row_added T p c x) x p ok.page (octets (given T) x ok.fits.range) rows
          ok.lent.limits.nodes-least T.nodes T.pages (get_or T.settings free_at 0))

      rest-by : (ws Q : List ℕ) → Within free_at (free_at + 1) T.settings ws → Within 0 (pages_length (given T)) T.pages Q
          → SameRest T (tables ws N Q (row_added T p c x) T.working)
      unfolding nodes_length
      rest-by ws Q w q = record {
        settings = w.same;
        nodes = kept.0.same;
        pages = q.same;
        sketches = length-with-row (given T).symbols T.sketches p (row_fits T (header_of (given T)) p x ok) x ok.fits.count;
        working = refl;
        settings-front = w.front;
        settings-rest = w.back;
        nodes-rest = kept.0.back;
        pages-rest = q.back;
      }

      pub promise-stopped : i ≡ None → AddPromise T p c x 14 (tables T.settings N P (row_added T p c x) T.working)
      promise-stopped m = record {
        early = λ g. absurd (g z);
        sound = λ F s. absurd (never-stopped T F p c x s (none F s) N P (f ∙ ap (filled N P) m));
        page = λ g. absurd (omega arith);
        refused = λ g k. absurd (k refl);
        stopped = λ k. record { settings = refl; pages = kept.1.front };
        stopped-row = λ k. inr refl;
        rest = rest-by T.settings P within_none (within-less kept.1);
        late = λ g. inr (inr refl);
      }

      pub promise-done : (l : ℕ) → i ≡ Some l → AddPromise T p c x 0 (page_added T p c x N P l)
      promise-done l m = record {
        early = λ g. absurd (g z);
        sound = λ F s. record {
          answers = sym (none F s);
          tries = λ g. filled-sound T F p c x s (none F s) N P l (f ∙ ap (filled N P) m);
        };
        page = λ g. record { pages = page-words (given T).pages p c (signature (given T).bits x) ok.page P T.pages kept.1.front; sketches = refl };
        refused = λ g k. absurd (g refl);
        stopped = λ k. absurd (omega arith);
        stopped-row = λ k. absurd (omega arith);
        rest =
            rest-by (set T.settings free_at l) (page_written T p c x P) (within-set T.settings free_at l (omega arith) (omega arith))
            (within_both (within-less kept.1) (page-within (given T) p c (signature (given T).bits x) ok.page P));
        late = λ g. inl refl;
      }

  -- ---- the model by its cases
  abbrev Keeps : Outcome → Type 0
  Keeps (outcome n T') = AddPromise T p c x n T'

  put_keeps : (z : number T [] (add p c x) ≡ 0) → room_found T x ≡ Ok tt → Keeps (put_page T p c x)
  unfolding put_page
  put_keeps z e = go (all_inserted T p c x) refl
    where
      go : (r : Filled) → all_inserted T p c x ≡ r → Keeps (on_filled T p c x r)
      go (filled N P (Some l)) f = promise-done z (passed T p c x [] z) e N P (Some l) f l refl
      go (filled N P None) f = promise-stopped z (passed T p c x [] z) e N P None f refl

  place-keeps : (z : number T [] (add p c x) ≡ 0) → Keeps (place_page T p c x)
  unfolding place_page
  place-keeps z = go (room_found T x) refl
    where
      go : (q : Result (Unit {0}) Stop) → room_found T x ≡ q → Keeps (on_room T p c x q)
      go (Ok u) e = put_keeps z e
      go (Err Full) e = promise-short z (passed T p c x [] z) e
      go (Err Broken) e = promise-broken z (passed T p c x [] z) e

  add-keeps : Keeps (add_page T p c x)
  unfolding add_page
  add-keeps = go (admission T (add p c x)) refl
    where
      go : (o : Result Numbers ℕ) → admission T (add p c x) ≡ o → Keeps (on_opening T p c x o)
      go (Ok h) e = place-keeps (told-shown T p c x h e).0
      go (Err n) e = let r = admission-refused T (add p c x) n e in promise-early n r.0 r.1

  -- the two parts of the contract
  pub add-promise : (n : ℕ) (T' : Tables) → outcome n T' ≡ add_page T p c x → AddPromise T p c x n T' × (outcome n T' ≡ add_page T p c x)
  add-promise n T' e = (subst Keeps (sym e) add-keeps, e)
