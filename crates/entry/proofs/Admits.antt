-- 5 and 6 of a call that takes the store: by the tests on the way, and what an opening that they show tells. 8 and 9 likewise.
use Rattle.std.specs.Prelude.{Ok, Err}
use Prim.Native.Nat.{ℕ, ◌+◌, ◌≤◌, ◌<◌}
use native.Mathlib.Nat.{mul-le-mul_right}
use native.Mathlib.Omega.{arith}
use mathlib.Core.Path.{◌≡◌, refl, sym, ap, ◌∙◌}
use mathlib.Core.Bool.{Bool, true, false, cond, ◌&&◌, not, beq}
use mathlib.Core.Logic.{◌≢◌}
use mathlib.Core.List.{List, [], ◌++◌}
use borrow.Author.Tests.{lt-ltb, le-ltb, leb-true}
use lib.Dec.{leb}
use lib.ListN.{length}
use Rattle.meaning.specs.Refusal.{Question, first_no}
use Rattle.meaning.specs.Ledger.{Call}
use Rattle.layout.specs.declared.Numbers.{Numbers}
use Rattle.layout.specs.Header.{opening_of, header_of, bare}
use Rattle.layout.specs.Settings.{settings_length}
use Rattle.layout.specs.Limits.{HeaderLimits}
use Rattle.layout.specs.Lengths.{nodes_length, pages_length, sketches_length}
use Rattle.layout.specs.Pages.{is_live}
use Rattle.layout.specs.Tables.{Lent}
use Rattle.layout.proofs.Openings.{shown, shows, shown-number, refused-number, refused-range}
use Rattle.meaning.proofs.Lists.{and_first, and_second}
use Rattle.promises.specs.Tables.{Tables, tables, given}
use Rattle.promises.specs.Answers.{number, long_nodes, long_pages}
use Rattle.entry.specs.Entry.{store_asked, store_entry, page_asked}
use Rattle.entry.specs.Admission.{admission}
use Rattle.entry.proofs.Questions.{fails, holds, all_yes, pass-first, stop-first}
use Rattle.entry.proofs.Told.{tell-refused, tell-shown, told-refused, told-shown}

module _ (ws nodes pages sketches : List ℕ) where
  abbrev T : Tables
  T = tables ws nodes pages sketches []

  abbrev is_long : Numbers → Bool
  is_long g =
      leb (nodes_length (bare g)) (length nodes)
      && (leb (pages_length (bare g)) (length pages) && leb (sketches_length (bare g)) (length sketches))

  pub store-refused : (n : ℕ) → opening_of ws ≡ Err n → Err n ≡ store_entry T
  unfolding store_entry store_asked
  store-refused n e = tell-refused T (first_no (store_asked T)) n (refused-number ws _ _ n e) (λ z. omega (arith, refused-range ws n e))

  module _ (h : Numbers) (e : opening_of ws ≡ Ok h) where
    by-header : first_no (store_asked T) ≡ cond (is_long h) 0 6
    unfolding store_asked long_nodes long_pages nodes_length pages_length sketches_length first_no
    by-header =
        shown-number ws (long_nodes (given T) T && long_pages (given T) T) [] h e
        ∙ ap (λ g. cond (is_long g) 0 6) (shown ws h e).header

    pub store-short : is_long h ≡ false → Err 6 ≡ store_entry T
    unfolding store_entry
    store-short a = tell-refused T (first_no (store_asked T)) 6 (by-header ∙ rw a) (omega arith)

    pub store_long : is_long h ≡ true → Ok h ≡ store_entry T
    unfolding store_entry
    store_long a = tell-shown T (first_no (store_asked T)) h (shown ws h e).header (by-header ∙ rw a)

-- ---- what they tell
pub record Opened (T : Tables) : Type 0 where
  pub long : settings_length ≤ length T.settings
  pub lent : Lent (header_of (given T)) T.nodes T.pages T.sketches
  pub levels : length (given T).thresholds ≡ 64

pub opened : (T : Tables) → first_no (store_asked T) ≡ 0 → Opened T
unfolding store_asked long_nodes long_pages nodes_length pages_length sketches_length
opened T z =
    let yes = all_yes (store_asked T) (omega arith) z in
    let five = leb-true settings_length (length T.settings) yes.0 in
    let o = shown T.settings _ (shows T.settings five (search (and_first, and_second))) in
    record {
      long = five;
      lent = record {
        limits = o.limits;
        nodes-long = leb-true (nodes_length (given T)) (length T.nodes) (search (and_first, and_second));
        pages-long = leb-true (pages_length (given T)) (length T.pages) (search (and_first, and_second));
        sketches-long = leb-true (sketches_length (given T)) (length T.sketches) (search (and_first, and_second));
      };
      levels = o.bounds.count;
    }

-- ---- an opening that they show
module _ (T : Tables) (h : Numbers) (e : store_entry T ≡ Ok h) where
  pub shown-none : first_no (store_asked T) ≡ 0
  unfolding store_entry
  shown-none = (told-shown T (first_no (store_asked T)) h e).0

  pub same-header : header_of (given T) ≡ h
  unfolding store_entry
  same-header = (told-shown T (first_no (store_asked T)) h e).1

  pub shown-limits : HeaderLimits h
  shown-limits = (rw same-header at (opened T shown-none).lent).limits

  -- 8 and 9 may be asked
  pub pages-fit : h.pages ≤ length T.pages
  unfolding pages_length
  pages-fit =
      let some : 1 ≤ 2 + h.q = omega arith in
      omega (arith, mul-le-mul_right h.pages some, (rw same-header at (opened T shown-none).lent).pages-long)

-- ---- what a call's admission tells
module _ (T : Tables) (c : Call) where
  pub admission-refused : (n : ℕ) → admission T c ≡ Err n → (number T [] c ≡ n) × (n ≢ 0)
  unfolding admission
  admission-refused n e = told-refused T (number T [] c) n e

  pub admission-shown : (h : Numbers) → admission T c ≡ Ok h → (number T [] c ≡ 0) × (header_of (given T) ≡ h)
  unfolding admission
  admission-shown h e = told-shown T (number T [] c) h e

-- ---- a call that is asked 5 and 6 of the store, then others
module _ (T : Tables) (c : Call) (qs : List Question) (asks : number T [] c ≡ first_no (store_asked T ++ qs)) where
  pub first-refused : (n : ℕ) → store_entry T ≡ Err n → Err n ≡ admission T c
  unfolding store_entry admission
  first-refused n e =
      let r = told-refused T (first_no (store_asked T)) n e in
      tell-refused T (number T [] c) n (asks ∙ stop-first (store_asked T) qs (λ z. r.1 (sym r.0 ∙ z)) ∙ r.0) r.1

  module _ (h : Numbers) (e : store_entry T ≡ Ok h) where
    asked-then : number T [] c ≡ first_no qs
    unfolding store_asked
    asked-then = asks ∙ pass-first (store_asked T) qs (omega arith) (shown-none T h e)

    pub then-refused : (n : ℕ) → first_no qs ≡ n → n ≢ 0 → Err n ≡ admission T c
    unfolding admission
    then-refused n f d = tell-refused T (number T [] c) n (asked-then ∙ f) d

    pub then-shown : first_no qs ≡ 0 → Ok h ≡ admission T c
    unfolding admission
    then-shown f = tell-shown T (number T [] c) h (same-header T h e) (asked-then ∙ f)

-- ---- 8 and 9
-- as the code compares the answer with what is wanted
same-wanted : (alive live : Bool) → beq alive live ≡ cond live alive (not alive)
same-wanted true true = refl
same-wanted true false = refl
same-wanted false true = refl
same-wanted false false = refl

module _ (cap : ℕ) (pages : List ℕ) (p : ℕ) (live : Bool) where
  pub page-past : cap ≤ p → 8 ≡ first_no (page_asked cap pages p live)
  unfolding page_asked first_no
  page-past l = rw (le-ltb p cap l)

  module _ (l : p < cap) (alive : Bool) (e : alive ≡ is_live pages p) where
    wanted : beq alive live ≡ cond live (is_live pages p) (not (is_live pages p))
    wanted = same-wanted alive live ∙ ap (λ (t : Bool). cond live t (not t)) e

    pub page-other : not (beq alive live) ≡ true → 9 ≡ first_no (page_asked cap pages p live)
    unfolding page_asked first_no
    page-other d = rw (lt-ltb p cap l, fails wanted d)

    pub page-wanted : not (beq alive live) ≡ false → 0 ≡ first_no (page_asked cap pages p live)
    unfolding page_asked first_no
    page-wanted d = rw (lt-ltb p cap l, holds wanted d)
