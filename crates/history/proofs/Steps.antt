-- What an accepted call leaves shows the ledger after its step.
use mathlib.Core.Path.{◌≡◌, refl, sym, ap, ◌∙◌}
use mathlib.Core.Bool.{Bool, true, false, cond, not}
use mathlib.Core.List.{List}
use Prim.Native.Nat.{ℕ, ◌+◌, ◌*◌, ◌≤◌, ◌<◌}
use native.Mathlib.Omega.{arith}
use lib.Dec.{ltb, eqb}
use lib.ListN.{length, take}
use lib.Seq.{take-take}
use borrow.Author.Tests.{eqb-true, ltb-true, leb-true, not-true}
use Rattle.meaning.specs.Lists.{any, keep}
use Rattle.meaning.specs.Sketch.{in_range, blank}
use Rattle.meaning.specs.Refusal.{first_no}
use Rattle.meaning.specs.Rights.{Register, Change, change_in_range, changed}
use Rattle.meaning.specs.Trie.{Tree}
use Rattle.meaning.specs.Ledger.{Row, row, Ledger, add, drop, change, accept, with_rows, with_register, put_row}
use Rattle.meaning.specs.Questions.{asked, by_ledger}
use Rattle.layout.specs.Settings.{settings_length, members_at, free_at}
use Rattle.layout.specs.Pages.{is_live, class_of, with_row, with_page, without_page}
use Rattle.layout.specs.Signature.{signature}
use Rattle.layout.proofs.Rows.{row_inside, row_same, row_other}
use Rattle.rights.specs.Entries.{registered}
use Rattle.rights.proofs.Pairs.{Holds, Changed, holds_same, made}
use Rattle.promises.specs.Tables.{Tables, with_settings, page_class, page_row, rows_of}
use Rattle.promises.specs.Answers.{long_settings}
use Rattle.promises.specs.Store.{SameRest, page_words, PageAdded}
use Rattle.promises.specs.Relation.{to_store, with_working}
use Rattle.history.specs.History.{admitted, judged}
use Rattle.history.proofs.Lists.{passed}
use Rattle.history.proofs.Pages.{left, rows_in, rows-add, rows_drop, live-add, live-drop, class-add, class-drop}
use Rattle.history.proofs.Represents.{Represents, AsLong, long_kept, settings-read, given_eq, long-settings, long-pages, long-sketches, rows_eq, live-eq}

below : (t : Bool) {b : Bool} {c d : ℕ} → c < 64 → (b ≡ true → d < 64) → cond t true b ≡ true → cond t c d < 64
below true h k e = h
below false h k e = k e

-- what an add has passed that no question refuses
pub record AddPassed (L : Ledger) (p c : ℕ) (x : List ℕ) : Type 0 where
  pub class : ltb c 64 ≡ true
  pub page : ltb p L.settings.pages ≡ true
  pub dead : not (any (λ r. eqb r.page p) L.rows) ≡ true
  pub whole : eqb (length x) L.settings.symbols ≡ true
  pub symbols : in_range L.settings.bits x ≡ true
  pub inked : not (blank x) ≡ true

pub add-passed : (T : Tables) (L : Ledger) (F : List Tree) (p c : ℕ) (x : List ℕ) → judged T L F (add p c x) ≡ 0 → AddPassed L p c x
unfolding judged admitted asked by_ledger first_no
add-passed T L F p c x e =
    let h7 = passed 7 (ltb c 64) _ (omega arith) e in
    let h8 = passed 8 (ltb p L.settings.pages) _ (omega arith) h7.1 in
    let h9 = passed 9 (not (any (λ r. eqb r.page p) L.rows)) _ (omega arith) h8.1 in
    let h10 = passed 10 (eqb (length x) L.settings.symbols) _ (omega arith) h9.1 in
    let h11 = passed 11 (in_range L.settings.bits x) _ (omega arith) h10.1 in
    let h15 = passed 15 (not (blank x)) _ (omega arith) h11.1 in
    record { class = h7.0; page = h8.0; dead = h9.0; whole = h10.0; symbols = h11.0; inked = h15.0 }

module _ (T : Tables) (L : Ledger) (R : Represents T L) where
  -- the tables afterwards, as long and with the same header
  kept : (T' : Tables) (rows : List Row) (G : Register) → AsLong T T' → take members_at T'.settings ≡ take members_at T.settings
      → Holds T'.settings G
      → rows ≡ rows_in L.settings.pages L.settings.symbols T'.pages T'.sketches
      → ((p : ℕ) → p < L.settings.pages → is_live T'.pages p ≡ true → class_of T'.pages p < 64)
      → Represents T' (record { settings = L.settings; rows = rows; register = G })
  unfolding rows_of page_class page_row
  kept T' rows G l h g r c = record {
    head = h ∙ R.head;
    limits = R.limits;
    long = long_kept L.settings T T' l R.long;
    register = g;
    rows = rw (settings-read L.settings R.limits T'.settings (h ∙ R.head)) r;
    classes = c;
  }

  -- ---- a change of the register
  inside : settings_length ≤ length T.settings
  unfolding long_settings
  inside = leb-true settings_length (length T.settings) (long-settings T L R)

  pub registered-as : (c : Change) → change_in_range c ≡ true → Changed T.settings (registered c T.settings) (changed c L.register)
  registered-as = made T.settings L.register R.register inside

  pub changes : (c : Change) → change_in_range c ≡ true → Represents (with_settings T (registered c T.settings)) (accept (change c) L)
  unfolding accept with_register
  changes c h =
      let k = registered-as c h in
      kept (with_settings T (registered c T.settings)) L.rows (changed c L.register)
      (record { settings = k.beside.long; nodes = refl; pages = refl; sketches = refl; working = refl }) k.beside.header k.holds (rows_eq T L R) R.classes

  -- ---- a reading: of the tables only the working table may change
  pub works : (ws : List ℕ) → length ws ≡ length T.working → Represents (with_working T ws) L
  works ws e =
      kept (with_working T ws) L.rows L.register
      (record { settings = refl; nodes = refl; pages = refl; sketches = refl; working = e }) refl R.register (rows_eq T L R) R.classes

  -- ---- add and drop
  abbrev P : ℕ
  P = L.settings.pages

  abbrev m : ℕ
  m = L.settings.symbols

  module _ (T' : Tables) (same : SameRest (to_store T) (to_store T')) (kept-working : T'.working ≡ T.working) where
    grown : (rows : List Row) → rows ≡ rows_in P m T'.pages T'.sketches
        → ((i : ℕ) → i < P → is_live T'.pages i ≡ true → class_of T'.pages i < 64)
        → Represents T' (with_rows L rows)
    unfolding with_rows
    grown rows =
        kept T' rows L.register
        (record { settings = same.settings; nodes = same.nodes; pages = same.pages; sketches = same.sketches; working = ap length kept-working })
        (sym (take-take members_at free_at T'.settings (omega arith)) ∙ rw same.settings-front (take-take members_at free_at T.settings (omega arith)))
        (holds_same T.settings L.register R.register T'.settings same.settings-front)

    pub drops : (F : List Tree) (p : ℕ) → page_words (to_store T) T'.pages ≡ page_words (to_store T) (without_page T.pages p)
        → T'.sketches ≡ T.sketches → judged T L F (drop p) ≡ 0 → Represents T' (accept (drop p) L)
    unfolding judged admitted asked by_ledger first_no accept
    drops F p d rows e =
        let h8 = passed 8 (ltb p P) _ (omega arith) e in
        let hp : p < P = ltb-true p P h8.0 in
        let struck : take (2 * P) T'.pages ≡ take (2 * P) (without_page T.pages p) = rw (given_eq T L R) at d in
        grown (keep (λ r. not (eqb r.page p)) L.rows)
        (rw (rows_eq T L R, rows) (rows_drop P T.pages T'.pages p hp (long-pages T L R) m T.sketches T.sketches struck (λ i hi. refl)))
        (λ i hi v.
        let l = left i p (sym (live-drop P T.pages T'.pages p hp (long-pages T L R) struck i hi) ∙ v) in
        rw (class-drop P T.pages T'.pages p hp (long-pages T L R) struck i hi l.0) (R.classes i hi l.1))

    pub adds : (F : List Tree) (p c : ℕ) (x : List ℕ) → PageAdded (to_store T) (to_store T') p c x → judged T L F (add p c x) ≡ 0
        → Represents T' (accept (add p c x) L)
    unfolding accept
    adds F p c x d e =
        let a = add-passed T L F p c x e in
        let hp : p < P = ltb-true p P a.page in
        let free : is_live T.pages p ≡ false = live-eq T L R p hp ∙ not-true _ a.dead in
        let whole : length x ≡ m = eqb-true (length x) m a.whole in
        let fits : p * m + m ≤ length T.sketches = row_inside m P (length T.sketches) hp (long-sketches T L R) in
        let g : ℕ = signature L.settings.bits x in
        let written : take (2 * P) T'.pages ≡ take (2 * P) (with_page P T.pages p c g) = rw (given_eq T L R) at d.pages in
        let over : T'.sketches ≡ with_row m T.sketches p x = rw (given_eq T L R) at d.sketches in
        grown (put_row (row p c x) L.rows)
        (rw (rows_eq T L R, over)
        (rows-add P T.pages T'.pages p hp (long-pages T L R) m T.sketches (with_row m T.sketches p x) c g x free written
        (row_same m T.sketches p fits x whole) (λ i hi. row_other m T.sketches p fits x whole i)))
        (λ i hi v.
        rw (class-add P T.pages T'.pages p hp (long-pages T L R) c g written i hi)
        (below (eqb i p) (ltb-true c 64 a.class) (R.classes i hi) (sym (live-add P T.pages T'.pages p hp (long-pages T L R) c g written i hi) ∙ v)))
