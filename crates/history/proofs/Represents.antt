-- The tables show the ledger: the invariant of a history, and what the questions read under it.
use mathlib.Core.Path.{◌≡◌, refl, sym, ap, ◌∙◌}
use mathlib.Core.Bool.{Bool, true, false, cond, ◌&&◌, and_assoc}
use mathlib.Core.List.{List, ◌++◌, map}
use Prim.Native.Nat.{ℕ, ◌+◌, ◌*◌, ◌≤◌, ◌<◌}
use native.Mathlib.Nat.{mul-le-mul_right}
use native.Mathlib.Omega.{arith}
use lib.Dec.{ltb, leb, eqb}
use lib.ListN.{length, take, take-append-drop, length-map, drop as skip}
use borrow.Author.Tests.{ltb-true, leb-true, eq-eqb}
use Rattle.meaning.specs.Lists.{all, any, upto}
use Rattle.meaning.specs.Refusal.{first_no}
use Rattle.meaning.specs.Sketch.{distance}
use Rattle.meaning.specs.Output.{listing}
use Rattle.meaning.specs.Rights.{open_to}
use Rattle.meaning.specs.Trie.{Tree}
use Rattle.meaning.specs.Ledger.{Settings, Row, Ledger, Reading, search, show, check, Call, opening, add, drop, change, reading, far, called_for, listed}
use Rattle.meaning.specs.Questions.{in_limits, asked_of, asked, by_ledger}
use Rattle.meaning.proofs.Lists.{and_first, and_second, and_intro, keep-from}
use Rattle.layout.specs.Settings.{members_at, header, settings_of, shows_opening}
use Rattle.layout.specs.Pages.{is_live, class_of}
use Rattle.layout.specs.Lengths.{pages_length, sketches_length, working_length}
use Rattle.layout.proofs.Limits.{bounds}
use Rattle.layout.proofs.Written.{settings-header, shows-header}
use Rattle.rights.specs.Register.{opens}
use Rattle.rights.proofs.Pairs.{Holds, holds-opens}
use Rattle.promises.specs.Tables.{Tables, takes, given, page_class, page_row, page_distance, is_shown, scan, rows_of, by_tables}
use Rattle.promises.specs.Answers.{long_for, long_settings, long_nodes, long_pages, long_working, shown56, entered, number}
use Rattle.history.specs.History.{admitted, judged}
use Rattle.meaning.proofs.Nearest.{all_keep, listing-pages}
use Rattle.history.proofs.Lists.{and_then, asks, rows-live, rows-any, rows-keep, rows_all}
use Rattle.history.proofs.Pages.{row_at, rows_in}

pub record Represents (T : Tables) (L : Ledger) : Type 0 where
  pub head : take members_at T.settings ≡ header L.settings
  pub limits : in_limits L.settings ≡ true
  -- all five tables
  pub long : long_settings T && long_for L.settings T (opening L.settings) ≡ true
  pub register : Holds T.settings L.register
  pub rows : L.rows ≡ rows_of T
  pub classes : (p : ℕ) → p < L.settings.pages → is_live T.pages p ≡ true → class_of T.pages p < 64

-- ---- the tables are as long as they were

pub record AsLong (T T' : Tables) : Type 0 where
  pub settings : length T'.settings ≡ length T.settings
  pub nodes : length T'.nodes ≡ length T.nodes
  pub pages : length T'.pages ≡ length T.pages
  pub sketches : length T'.sketches ≡ length T.sketches
  pub working : length T'.working ≡ length T.working

pub long_kept : (s : Settings) (T T' : Tables) → AsLong T T' → long_settings T && long_for s T (opening s) ≡ true
    → long_settings T' && long_for s T' (opening s) ≡ true
unfolding long_settings long_for long_nodes long_pages long_working
long_kept s T T' l h = rw (l.settings, l.nodes, l.pages, l.sketches, l.working) h

-- ---- a table that begins with a header

parted : (s : Settings) (ws : List ℕ) → take members_at ws ≡ header s → ws ≡ header s ++ skip members_at ws
parted s ws e = sym (take-append-drop members_at ws) ∙ ap (λ h. h ++ skip members_at ws) e

pub settings-read : (s : Settings) → in_limits s ≡ true → (ws : List ℕ) → take members_at ws ≡ header s → settings_of ws ≡ s
settings-read s limits ws e = ap settings_of (parted s ws e) ∙ settings-header s (skip members_at ws) (bounds s limits).count

-- ---- under the invariant

asked-too : (t : Bool) {tests test : Bool} → tests ≡ true → test ≡ true → cond t (tests && test) tests ≡ true
asked-too true {tests} {test} a b = and_intro tests test a b
asked-too false a b = a

module _ (T : Tables) (L : Ledger) (R : Represents T L) where
  pub given_eq : given T ≡ L.settings
  given_eq = settings-read L.settings R.limits T.settings R.head

  -- 5 and 6
  pub long-settings : long_settings T ≡ true
  long-settings = and_first (long_settings T) (long_for L.settings T (opening L.settings)) R.long

  long-all : long_nodes L.settings T && long_pages L.settings T && long_working L.settings T ≡ true
  unfolding long_for
  long-all = and_second (long_settings T) (long_for L.settings T (opening L.settings)) R.long

  -- whichever tables it takes
  pub long-for : (c : Call) → long_for L.settings T c ≡ true
  unfolding long_for
  long-for c =
      asked-too (takes c).working (asked-too (takes c).pages (asked-too (takes c).nodes refl nodes) pages)
      (and_second (long_nodes L.settings T && long_pages L.settings T) _ long-all)
    where
      store : long_nodes L.settings T && long_pages L.settings T ≡ true
      store = and_first (long_nodes L.settings T && long_pages L.settings T) (long_working L.settings T) long-all

      nodes : long_nodes L.settings T ≡ true
      nodes = and_first (long_nodes L.settings T) (long_pages L.settings T) store

      pages : long_pages L.settings T ≡ true
      pages = and_second (long_nodes L.settings T) (long_pages L.settings T) store

  -- the page words and the signatures, and the rows
  pub long-pages : 2 * L.settings.pages ≤ length T.pages
  unfolding long_for long_pages pages_length
  long-pages =
      let a : leb (pages_length L.settings) (length T.pages) ≡ true = and_first _ _ (long-for (reading (show 0 0))) in
      let b : 2 ≤ 2 + L.settings.blocks = omega arith in
      omega (arith, leb-true (pages_length L.settings) (length T.pages) a, mul-le-mul_right L.settings.pages b)

  pub long-sketches : L.settings.pages * L.settings.symbols ≤ length T.sketches
  unfolding long_for long_pages sketches_length
  long-sketches =
      leb-true (sketches_length L.settings) (length T.sketches) (and_second (leb (pages_length L.settings) (length T.pages)) _ (long-for (reading (show 0 0))))

  pub long-working : working_length L.settings ≤ length T.working
  unfolding long_working
  long-working =
      leb-true (working_length L.settings) (length T.working) (and_second (long_nodes L.settings T && long_pages L.settings T) _ long-all)

  pub shows-opening : shows_opening T.settings ≡ true
  shows-opening =
      ap shows_opening (parted L.settings T.settings R.head)
      ∙ shows-header L.settings (skip members_at T.settings) (bounds L.settings R.limits).count
      ∙ R.limits

  pub shown-6 : (c : Call) → shows_opening T.settings && long_for (given T) T c ≡ true
  shown-6 c = rw (given_eq) (and_intro (shows_opening T.settings) (long_for L.settings T c) shows-opening (long-for c))

  pub past-6 : (c : Call) → first_no (shown56 T c) ≡ 0
  unfolding shown56 first_no
  past-6 c = rw (long-settings, shown-6 c)

  -- ---- what 9, 12 and 13 read
  pub rows_eq : L.rows ≡ rows_in L.settings.pages L.settings.symbols T.pages T.sketches
  unfolding rows_of page_class page_row
  rows_eq = R.rows ∙ ap (λ (s : Settings). rows_in s.pages s.symbols T.pages T.sketches) given_eq

  abbrev live : ℕ → Bool
  live = is_live T.pages

  abbrev row : ℕ → Row
  row = row_at L.settings.symbols T.pages T.sketches

  pub live-eq : (p : ℕ) → p < L.settings.pages → is_live T.pages p ≡ any (λ r. eqb r.page p) L.rows
  live-eq p h = rw rows_eq (sym (rows-live live row (λ i. refl) p 0 L.settings.pages (omega arith) (omega arith)))

  opens-live : (reader p : ℕ) → reader < 256 → p < L.settings.pages → live p ≡ true
      → opens T.settings reader (row p).class ≡ open_to L.register reader (row p).class
  opens-live reader p hr h e = holds-opens T.settings L.register R.register reader (row p).class hr (R.classes p h e)

  shown-row : (reader p : ℕ) → reader < 256 → p < L.settings.pages → is_shown T reader p ≡ live p && open_to L.register reader (row p).class
  unfolding is_shown page_class
  shown-row reader p hr h = and_then (live p) (opens-live reader p hr h)

  pub shown-eq : (reader p : ℕ) → reader < 256 → p < L.settings.pages
      → is_shown T reader p ≡ any (λ r. eqb r.page p && open_to L.register reader r.class) L.rows
  shown-eq reader p hr h =
      rw rows_eq
      (shown-row reader p hr h
      ∙ sym (rows-any live row (λ i. refl) (λ r. open_to L.register reader r.class) p 0 L.settings.pages (omega arith) (omega arith)))

  -- the pages of the rows called for
  scan-eq : (reader radius : ℕ) (x : List ℕ) → reader < 256 → scan T reader radius x ≡ map (λ r. r.page) (called_for L reader radius x)
  unfolding scan called_for page_row upto
  scan-eq reader radius x hr =
      rw (given_eq, rows_eq)
      (keep-from (λ p. is_shown T reader p && near p) (λ p. live p && (mine p && near p)) 0 L.settings.pages
      (λ p a b. rw (shown-row reader p hr (omega arith)) (and_assoc (live p) (mine p) (near p)))
      ∙ sym (rows-keep live row (λ i. refl) (λ r. open_to L.register reader r.class && leb (distance r.sketch x) radius) 0 L.settings.pages))
    where
      mine : ℕ → Bool
      mine p = open_to L.register reader (row p).class

      near : ℕ → Bool
      near p = leb (distance (row p).sketch x) radius

  pub found-eq : (reader radius : ℕ) (x : List ℕ) → reader < 256 → length (scan T reader radius x) ≡ length (called_for L reader radius x)
  found-eq reader radius x hr = ap length (scan-eq reader radius x hr) ∙ length-map (called_for L reader radius x) (λ r. r.page)

  -- each is as far as its page's row
  pub listed-eq : (reader radius : ℕ) (x : List ℕ) → reader < 256
      → listing (λ p. p) (page_distance T x) radius (scan T reader radius x) ≡ listed L reader radius x
  unfolding listed
  listed-eq reader radius x hr =
      ap (listing (λ p. p) (page_distance T x) radius) (scan-eq reader radius x hr)
      ∙ sym (listing-pages (λ r. r.page) (far x) (page_distance T x) radius (called_for L reader radius x) measured)
    where
      measured : all (λ r. eqb (far x r) (page_distance T x r.page)) (called_for L reader radius x) ≡ true
      measured =
          unfold called_for page_row in
          all_keep _ _ L.rows
          (rw (given_eq, rows_eq) (rows_all live row (λ i. refl) _ (λ i. eq-eqb (distance (row i).sketch x) _ refl) 0 L.settings.pages))

  -- ---- a call's number is the one that the ledger's questions give
  reading-eq : (F : List Tree) (q : Reading) → first_no (asked_of (by_tables T F) q) ≡ first_no (asked_of (by_ledger L F) q)
  unfolding by_tables by_ledger first_no
  reading-eq F (search r d x o) =
      rw given_eq
      (asks 7 (ltb r 256 && leb d 64) λ h7.
      rw (found-eq r d x (ltb-true r 256 (and_first (ltb r 256) (leb d 64) h7))))
  reading-eq F (show r p) =
      rw given_eq
      (asks 7 (ltb r 256) λ h7.
      asks 8 (ltb p L.settings.pages) λ h8.
      rw (shown-eq r p (ltb-true r 256 h7) (ltb-true p L.settings.pages h8)))
  reading-eq F check = refl

  pub number-eq : (F : List Tree) (c : Call) → number T F c ≡ judged T L F c
  unfolding number judged admitted entered shown56 asked by_tables by_ledger first_no
  number-eq F (opening s) = refl
  number-eq F (add p c x) =
      rw (long-settings, shown-6 (add p c x), given_eq, ← R.rows)
      (asks 7 (ltb c 64) λ h7.
      asks 8 (ltb p L.settings.pages) λ h8.
      rw (live-eq p (ltb-true p L.settings.pages h8)))
  number-eq F (drop p) =
      rw (long-settings, shown-6 (drop p), given_eq)
      (asks 8 (ltb p L.settings.pages) λ h8.
      rw (live-eq p (ltb-true p L.settings.pages h8)))
  number-eq F (change c) = rw (long-settings, shown-6 (change c))
  number-eq F (reading q) = rw (long-settings, shown-6 (reading q)) (reading-eq F q)
