-- A show: its number by the tests on the way, and the place of its row.
use Rattle.std.specs.Prelude.{Ok, Err}
use Prim.Native.Nat.{ℕ, ◌+◌, ◌*◌, ◌^◌, ◌≤◌, ◌<◌}
use native.Mathlib.Omega.{arith}
use native.Mathlib.Nat.{mul-le-mul, lt_of_le_of_lt}
use mathlib.Core.Path.{◌≡◌, refl, sym, ap, ◌∙◌, subst}
use mathlib.Core.Bool.{Bool, true, false, cond, ◌&&◌}
use mathlib.Core.List.{List, []}
use borrow.Author.Tests.{lt-ltb, le-ltb, ne_eqb, ltb-true, leb-true, eqb-true}
use lib.Dec.{ltb, leb, eqb, lit<}
use lib.ListN.{length, take, drop}
use Rattle.meaning.specs.Refusal.{first_no}
use Rattle.meaning.specs.Ledger.{show, reading}
use Rattle.meaning.specs.Questions.{asked}
use Rattle.meaning.proofs.Lists.{and_first, and_second}
use Rattle.layout.specs.declared.Numbers.{Numbers}
use Rattle.layout.specs.Settings.{settings_of, shows_opening}
use Rattle.layout.specs.Header.{opening_of, tables_first, bare}
use Rattle.layout.specs.Limits.{HeaderLimits}
use Rattle.layout.specs.Lengths.{pages_length, sketches_length}
use Rattle.layout.specs.Pages.{is_live, class_of, row_of}
use Rattle.layout.proofs.Openings.{shown, shown-number, refused-number, refused-range}
use Rattle.layout.proofs.Words.{page-inside}
use Rattle.layout.proofs.Rows.{row_inside}
use Rattle.rights.specs.Register.{opens}
use Rattle.promises.specs.Tables.{Tables, show_tables, given, by_tables, is_shown, page_class, page_row}
use Rattle.promises.specs.Answers.{number, entered, shown56, long_settings, long_for, long_pages}
use Rattle.promises.specs.Readings.{start_shown, length_shown, row_shown}
use Rattle.show_page.specs.Show.{Place, no_row, place_of}
use Rattle.entry.proofs.Questions.{all_yes}

-- 6, of the page table and the sketch table
abbrev pub long_for6 : Numbers → List ℕ → List ℕ → Bool
long_for6 h pages sketches = leb (pages_length (bare h)) (length pages) && leb (sketches_length (bare h)) (length sketches)

module _ (h : Numbers) (p : ℕ) (page : p < h.pages) where
  pub word-inside : (pages sketches : List ℕ) → long_for6 h pages sketches ≡ true → p < length pages
  word-inside pages sketches long =
      let pages-long = leb-true (pages_length (bare h)) (length pages) (and_first _ (leb (sketches_length (bare h)) (length sketches)) long) in
      omega (arith, page-inside (bare h) page, pages-long)

  pub start_fits : HeaderLimits h → p * h.m < 2 ^ 32
  start_fits l =
      let small : p ≤ 65535 = omega arith in
      let few : h.m ≤ 64 = omega arith in
      lt_of_le_of_lt (mul-le-mul small few) (lit< tt)

module _ (T : Tables) (r p : ℕ) where
  refused-place : (n : ℕ) → number T [] (reading (show r p)) ≡ n → (n ≡ 0 → ⊥) → no_row n ≡ place_of T r p
  unfolding place_of start_shown length_shown
  refused-place n e h = rw (e, ne_eqb n 0 h)

  shown-place : (m : ℕ) → (given T).symbols ≡ m → number T [] (reading (show r p)) ≡ 0
      → record { number = 0; start = p * m; length = m } ≡ place_of T r p
  unfolding place_of start_shown length_shown
  shown-place m same e = rw (e, same)

-- ---- what `find_row` gives, by the way out
module _ (ws pages sketches : List ℕ) (r p : ℕ) where
  abbrev T : Tables
  T = show_tables ws pages sketches

  -- 5 and 6, then the others
  asked-first : number T [] (reading (show r p))
      ≡ first_no (tables_first ws (long_pages (settings_of ws) T) (asked (by_tables T []) (reading (show r p))))
  unfolding number entered shown56 long_settings long_for
  asked-first = refl

  pub row-refused : (n : ℕ) → opening_of ws ≡ Err n → no_row n ≡ place_of T r p
  row-refused n e =
      refused-place T r p n (asked-first ∙ refused-number ws _ _ n e) (λ z. omega (arith, refused-range ws n e))

  module _ (h : Numbers) (e : opening_of ws ≡ Ok h) where
    -- the number from 6 on
    from6 : Numbers → ℕ
    from6 g =
        cond (long_for6 g pages sketches)
        (cond (ltb r 256)
        (cond (ltb p g.pages)
        (cond (is_live pages p && opens ws r (class_of pages p)) 0 9) 8) 7) 6

    by-header : number T [] (reading (show r p)) ≡ from6 h
    unfolding from6 long_pages pages_length sketches_length asked by_tables is_shown page_class first_no
    by-header =
        asked-first
        ∙ shown-number ws (long_pages (settings_of ws) T) (asked (by_tables T []) (reading (show r p))) h e
        ∙ ap from6 (shown ws h e).header

    pub row-6 : long_for6 h pages sketches ≡ false → no_row 6 ≡ place_of T r p
    unfolding from6
    row-6 long = refused-place T r p 6 (by-header ∙ rw long) (omega arith)

    module _ (long : long_for6 h pages sketches ≡ true) where
      pub row-7 : 256 ≤ r → no_row 7 ≡ place_of T r p
      unfolding from6
      row-7 hr = refused-place T r p 7 (by-header ∙ rw (long, le-ltb r 256 hr)) (omega arith)

      module _ (hr : r < 256) where
        pub row-8 : h.pages ≤ p → no_row 8 ≡ place_of T r p
        unfolding from6
        row-8 hp = refused-place T r p 8 (by-header ∙ rw (long, lt-ltb r 256 hr, le-ltb p h.pages hp)) (omega arith)

        module _ (hp : p < h.pages) where
          pub row-missing : is_live pages p ≡ false → no_row 9 ≡ place_of T r p
          unfolding from6
          row-missing live =
              refused-place T r p 9 (by-header ∙ rw (long, lt-ltb r 256 hr, lt-ltb p h.pages hp, live)) (omega arith)

          module _ (live : is_live pages p ≡ true) (class : ℕ) (of-page : class ≡ class_of pages p) where
            pub row-closed : opens ws r class ≡ false → no_row 9 ≡ place_of T r p
            unfolding from6
            row-closed shut =
                refused-place T r p 9
                (by-header ∙ rw (long, lt-ltb r 256 hr, lt-ltb p h.pages hp, live, ← of-page, shut))
                (omega arith)

            pub row-shown : opens ws r class ≡ true → record { number = 0; start = p * h.m; length = h.m } ≡ place_of T r p
            unfolding from6
            row-shown granted =
                shown-place T r p h.m (ap (λ g. g.m) (shown ws h e).header)
                (by-header ∙ rw (long, lt-ltb r 256 hr, lt-ltb p h.pages hp, live, ← of-page, granted))

  -- ---- the part with that place
  place-shown : number T [] (reading (show r p)) ≡ 0 → p * (given T).symbols + (given T).symbols ≤ length sketches
  unfolding long_pages sketches_length asked by_tables
  place-shown z =
      let yes = all_yes (tables_first ws (long_pages (given T) T) (asked (by_tables T []) (reading (show r p)))) (omega arith) (sym asked-first ∙ z) in
      let long = and_second (shows_opening ws) (long_pages (given T) T) yes.1.0 in
      row_inside (given T).symbols (given T).pages (length sketches)
      (ltb-true p (given T).pages yes.1.1.1.0)
      (leb-true (sketches_length (given T)) (length sketches) (and_second (leb (pages_length (given T)) (length pages)) _ long))

  pub place_inside : (place_of T r p).start + (place_of T r p).length ≤ length sketches
  unfolding place_of start_shown length_shown
  place_inside = go (eqb (number T [] (reading (show r p))) 0) refl
    where
      go : (t : Bool) → eqb (number T [] (reading (show r p))) 0 ≡ t
          → cond t (p * (given T).symbols) 0 + cond t (given T).symbols 0 ≤ length sketches
      go true e = place-shown (eqb-true (number T [] (reading (show r p))) 0 e)
      go false e = omega arith

  pub part-shown : row_shown T r p ≡ take (place_of T r p).length (drop (place_of T r p).start sketches)
  unfolding place_of start_shown length_shown row_shown page_row row_of
  part-shown = go (eqb (number T [] (reading (show r p))) 0)
    where
      go : (t : Bool) → cond t (row_of (given T).symbols sketches p) []
          ≡ take (cond t (given T).symbols 0) (drop (cond t (p * (given T).symbols) 0) sketches)
      go true = refl
      go false = refl

  -- of a place that an answer says
  module _ (q : Place) (e : q ≡ place_of T r p) where
    pub found-inside : q.start + q.length ≤ length sketches
    found-inside = subst (λ (P : Place). P.start + P.length ≤ length sketches) (sym e) place_inside

    pub found-part : take q.length (drop q.start sketches) ≡ row_shown T r p
    found-part = subst (λ (P : Place). take P.length (drop P.start sketches) ≡ row_shown T r p) (sym e) (sym part-shown)

    pub found-number : q.number ≡ number T [] (reading (show r p))
    unfolding place_of
    found-number = ap (λ (P : Place). P.number) e

    pub found-start : q.start ≡ start_shown T r p
    unfolding place_of
    found-start = ap (λ (P : Place). P.start) e

    pub found-length : q.length ≡ length_shown T r p
    unfolding place_of
    found-length = ap (λ (P : Place). P.length) e
