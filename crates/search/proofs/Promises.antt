-- A search keeps its promise, by the way out.
use Rattle.std.specs.Prelude.{Ok, Err}
use Prim.Native.Nat.{ℕ, ◌+◌, ◌<◌}
use native.Mathlib.Omega.{arith}
use native.Mathlib.Nat.{zero-add}
use mathlib.Core.Path.{◌≡◌, refl, sym, ap, ◌∙◌}
use mathlib.Core.Bool.{Bool, true, false, cond, ◌&&◌}
use mathlib.Core.Logic.{◌≢◌, ◌⊎◌, inl, inr}
use mathlib.Core.List.{List, [], ◌∷◌}
use borrow.Author.Tests.{le-leb, ne_eqb}
use lib.Dec.{leb, eqb}
use lib.ListN.{length, drop, replicate, length-replicate}
use lib.Seq.{drop_at}
use Rattle.meaning.specs.Lists.{onto}
use Rattle.meaning.specs.Output.{Output, has_room}
use Rattle.meaning.specs.Refusal.{Question, ask, first_no}
use Rattle.meaning.specs.Sketch.{in_range}
use Rattle.meaning.specs.Trie.{Tree}
use Rattle.meaning.specs.Ledger.{search, reading}
use Rattle.meaning.specs.Questions.{asked}
use Rattle.words.specs.Bits.{zeroed}
use Rattle.refusals.specs.declared.Refusal.{Refusal}
use Rattle.refusals.specs.declared.Refusal.TheVariants.{UnknownCommand, MisplacedCommand, MissingOperands, BadSettings, ShortTable, NoOpening, OutOfRange, NoSuchPage, PageState, BadLength, BadSymbol, NoRoom, ShortOutput, Unsound, Blank}
use Rattle.refusals.specs.Refusals.{number_of, needed_of}
use Rattle.layout.specs.declared.Header.{Header}
use Rattle.layout.specs.declared.Numbers.{Numbers}
use Rattle.layout.specs.Headers.{numbers}
use Rattle.layout.specs.Settings.{settings_length, shows_opening}
use Rattle.layout.specs.Header.{header_of, bare}
use Rattle.layout.specs.Lengths.{working_length}
use Rattle.layout.specs.Working.{map_words, summary_words}
use Rattle.layout.proofs.Sizes.{same-lengths}
use Rattle.rights.specs.declared.Classes.{Classes}
use Rattle.rights.specs.Open.{entry_of}
use Rattle.promises.specs.Tables.{Tables, given, page_row, page_distance, by_tables, scan}
use Rattle.promises.specs.Answers.{number, entered, shown56, long_settings, long_nodes, long_pages, long_working, long_for}
use Rattle.promises.specs.Sound.{Sound}
use Rattle.promises.specs.Readings.{working_left, listed_of, Lists, roomy, early_number, SearchPromise}
use Rattle.entry.specs.Entry.{tables_asked, entry}
use Rattle.entry.proofs.Enters.{entry-refused, Entered, entry-shown}
use Rattle.marks.specs.Marks.{summary_of}
use Rattle.hits.specs.declared.Probe.{Probe}
use Rattle.hits.specs.Hit.{Fitting, test, test_of}
use Rattle.hits.specs.Probes.{probe_of, test_by}
use Rattle.meeting.specs.Meets.{Meets, met, broken}
use Rattle.traversal.specs.Meets.{meet_blocks}
use Rattle.search_laws.specs.Answer.{Answered, meets, AnsweredBy}
use Rattle.search_laws.proofs.Lists.{found_in, met_by, list-met, walks-whole, list_all}
use Rattle.search.specs.Questions.{query_asked}
use Rattle.search.proofs.Queries.{query-passed}

-- ---- a refusal of 5, 6, 7, 10 or 11 needs no length
needed-none : (r : Refusal) → number_of r ≢ 13 → needed_of r ≡ 0
needed-none UnknownCommand h = refl
needed-none MisplacedCommand h = refl
needed-none MissingOperands h = refl
needed-none BadSettings h = refl
needed-none ShortTable h = refl
needed-none NoOpening h = refl
needed-none OutOfRange h = refl
needed-none NoSuchPage h = refl
needed-none PageState h = refl
needed-none BadLength h = refl
needed-none BadSymbol h = refl
needed-none NoRoom h = refl
needed-none (ShortOutput n) h = absurd (h refl)
needed-none Unsound h = refl
needed-none Blank h = refl

two-short : (s t : Bool) → first_no (ask 5 s ∷ ask 6 t ∷ []) < 13
unfolding first_no
two-short true true = omega arith
two-short true false = omega arith
two-short false t = omega arith

three-short : (s t u : Bool) → first_no (ask 7 s ∷ ask 10 t ∷ ask 11 u ∷ []) < 13
unfolding first_no
three-short true true true = omega arith
three-short true true false = omega arith
three-short true false u = omega arith
three-short false t u = omega arith

tables-short : (T : Tables) → first_no (tables_asked T) < 13
unfolding tables_asked
tables-short T = two-short _ _

pub tables-needed : (T : Tables) (r : Refusal) → entry T ≡ Err (number_of r) → needed_of r ≡ 0
tables-needed T r e = needed-none r (λ z. omega (arith, (entry-refused T (number_of r) e).0, tables-short T))

query-short : (h : Numbers) (reader radius : ℕ) (x : List ℕ) → first_no (query_asked h reader radius x) < 13
unfolding query_asked
query-short h reader radius x = three-short _ _ _

pub query-needed : (h : Numbers) (reader radius : ℕ) (x : List ℕ) (r : Refusal) → number_of r ≡ first_no (query_asked h reader radius x) → needed_of r ≡ 0
query-needed h reader radius x r e = needed-none r (λ z. omega (arith, e, query-short h reader radius x))

-- ---- past 11, by the pages met
module _ (T : Tables) (reader radius : ℕ) (x : List ℕ) (before : Output) (n count : ℕ) (after : Output)
    (a : Answered (meets T reader radius x) (test_of T reader radius x) before n count after) where
  answer-refused : n ≢ 0 → n ≢ 13 → (count ≡ 0) × (after ≡ before)
  answer-refused k l = go (meets T reader radius x) refl
    where
      neither : (t : Bool) → n ≡ cond t 0 13 → ⊥
      neither true z = k z
      neither false z = l z

      go : (m : Meets) → meets T reader radius x ≡ m → (count ≡ 0) × (after ≡ before)
      go (met ps j) z = absurd (neither (has_room (length (found_in T reader radius x ps)) before) (a.listed ps j z).refusal)
      go broken z = let s = a.stopped z in (s.1, s.2)

  answer-open : (n ≡ 14) ⊎ ((met : ℕ → Bool) × Lists (page_distance T x) radius (listed_of met T reader radius x) before n count after)
  unfolding page_row
  answer-open = go (meets T reader radius x) refl
    where
      go : (m : Meets) → meets T reader radius x ≡ m → (n ≡ 14) ⊎ ((met : ℕ → Bool) × Lists (page_distance T x) radius (listed_of met T reader radius x) before n count after)
      go (met ps j) z = inr (met_by T reader radius x ps, rw (list-met T reader radius x ps) at (a.listed ps j z))
      go broken z = inl (a.stopped z).0

  answer-sound : Fitting (test_of T reader radius x) → in_range (given T).bits x ≡ true → (F : List Tree) → Sound T F
      → Lists (page_distance T x) radius (scan T reader radius x) before n count after
  unfolding page_row
  answer-sound fit range F s =
      let w = walks-whole T reader radius x fit range F s in
      rw (list_all T reader radius x fit range F s) at (a.listed _ _ w.same)

-- ---- the words cleared
zeroed-onto : (n : ℕ) (map : List ℕ) → zeroed map 0 n ≡ onto (replicate n 0) map
unfolding zeroed onto
zeroed-onto n map = rw (zero-add n, length-replicate {A = ℕ} n 0)

zeroed-again : (n : ℕ) (map : List ℕ) → zeroed (zeroed map 0 n) 0 n ≡ zeroed map 0 n
unfolding zeroed
zeroed-again n map = rw (zero-add n, drop_at (replicate n 0) (drop n map) n (length-replicate {A = ℕ} n 0))

-- ---- the questions
-- two questions ahead of others
two-first : (s t : Bool) (qs : List Question)
    → first_no (ask 5 s ∷ ask 6 t ∷ qs) ≡ cond (eqb (first_no (ask 5 s ∷ ask 6 t ∷ [])) 0) (first_no qs) (first_no (ask 5 s ∷ ask 6 t ∷ []))
unfolding first_no
two-first true true qs = refl
two-first true false qs = refl
two-first false t qs = refl

module _ (T : Tables) (reader radius : ℕ) (x : List ℕ) (before : Output) where
  abbrev early : ℕ
  early = early_number T reader radius x

  -- an output as long as the list leaves 13 out
  query-first : first_no (asked (by_tables T []) (reading (search reader radius x (roomy T reader radius x)))) ≡ first_no (query_asked (header_of (given T)) reader radius x)
  unfolding asked by_tables query_asked first_no has_room
  query-first = rw (le-leb (length (scan T reader radius x)) (length (scan T reader radius x)) (omega arith)) refl

  early-split : early ≡ cond (eqb (first_no (tables_asked T)) 0) (first_no (query_asked (header_of (given T)) reader radius x)) (first_no (tables_asked T))
  unfolding number entered shown56 long_settings long_for tables_asked
  early-split =
      two-first (leb settings_length (length T.settings)) (shows_opening T.settings && (long_nodes (given T) T && long_pages (given T) T && long_working (given T) T))
      (asked (by_tables T []) (reading (search reader radius x (roomy T reader radius x))))
      ∙ ap (λ n. cond (eqb (first_no (tables_asked T)) 0) n (first_no (tables_asked T))) query-first

  left_split : (after : Output) → working_left T (search reader radius x after)
      ≡ cond (eqb (first_no (tables_asked T)) 0) (onto (replicate (working_length (given T)) 0) T.working) T.working
  unfolding working_left entered shown56 long_settings long_for tables_asked
  left_split after = refl

  -- 5 or 6
  pub promise-tables : (n : ℕ) → entry T ≡ Err n
      → SearchPromise T reader radius x before n 0 before T.working × AnsweredBy T reader radius x before n 0 before
  promise-tables n e =
      let r = entry-refused T n e in
      let same : early ≡ n = early-split ∙ rw (r.0, ne_eqb n 0 r.1) refl in (
        record {
          early = λ h. sym same;
          sound = λ F s z. absurd (r.1 (sym same ∙ z));
          open-list = λ z. absurd (r.1 (sym same ∙ z));
          refused = λ h g. (refl, refl);
          working-left = sym (left_split before ∙ rw (r.0, ne_eqb n 0 r.1) refl);
        },
        λ z. absurd (r.1 (sym same ∙ z)),
      )

  -- past 5 and 6 the needed part of the working table is cleared
  module _ (h : Numbers) (e : entry T ≡ Ok h) where
    abbrev in_order : Entered T h
    in_order = entry-shown T h e

    early-query : early ≡ first_no (query_asked h reader radius x)
    early-query = early-split ∙ rw (in_order.none, in_order.header) refl

    left-cleared : zeroed T.working 0 (map_words (bare h) + summary_of (map_words (bare h))) ≡ working_left T (search reader radius x before)
    unfolding working_length summary_words
    left-cleared =
        zeroed-onto (map_words (bare h) + summary_of (map_words (bare h))) T.working
        ∙ ap (λ k. onto (replicate k 0) T.working) (same-lengths (given T) h in_order.header).working
        ∙ sym (left_split before ∙ rw in_order.none refl)

    module _ (w : ℕ) (f : w ≡ map_words (bare h)) (cleared : List ℕ) (g : cleared ≡ zeroed T.working 0 (w + summary_of w)) where
      -- 7, 10 or 11
      pub promise-query : (n : ℕ) → n ≡ first_no (query_asked h reader radius x) → n ≢ 0
          → SearchPromise T reader radius x before n 0 before cleared × AnsweredBy T reader radius x before n 0 before
      promise-query n q some =
          let same : early ≡ n = early-query ∙ sym q in (
            record {
              early = λ k. sym same;
              sound = λ F s z. absurd (some (sym same ∙ z));
              open-list = λ z. absurd (some (sym same ∙ z));
              refused = λ k l. (refl, refl);
              working-left = g ∙ ap (λ v. zeroed T.working 0 (v + summary_of v)) f ∙ left-cleared;
            },
            λ z. absurd (some (sym same ∙ z)),
          )

      -- past 11
      module _ (q : first_no (query_asked h reader radius x) ≡ 0) (k : Classes) (c : k ≡ entry_of T.settings reader) (p : Probe)
          (H : Header) (i : numbers H ≡ h) (r : p ≡ probe_of H k x radius) where
        fit : Fitting (test_of T reader radius x)
        fit = rw in_order.header
            record { limits = in_order.limits; pages = in_order.pages-long; sketches = in_order.sketches-long; query = (query-passed h reader radius x q).1.count }

        -- by the tables and the reader's rights
        by_reader : (n count : ℕ) (after : Output) (g : Numbers) (l : Classes) (d : ℕ) → g ≡ header_of (given T) → l ≡ entry_of T.settings reader → d ≡ radius
            → Answered (meet_blocks g T.nodes T.pages x d) (test T.pages T.sketches g l x d) before n count after
            → Answered (meets T reader radius x) (test_of T reader radius x) before n count after
        by_reader n count after g l d y z v a = rw (y, z, v) at a

        pub promise-found : (n count : ℕ) (after : Output) (last : List ℕ)
            → Answered (meet_blocks (numbers p.header) T.nodes T.pages x p.radius) (test_by T.pages T.sketches x p) before n count after
            → last ≡ zeroed cleared 0 (w + summary_of w)
            → SearchPromise T reader radius x before n count after last × AnsweredBy T reader radius x before n count after
        promise-found n count after last a z =
            let b : Answered (meets T reader radius x) (test_of T reader radius x) before n count after =
            by_reader n count after (numbers p.header) p.classes p.radius (ap (λ y. numbers y.header) r ∙ i ∙ sym in_order.header) (ap (λ y. y.classes) r ∙ c)
            (ap (λ y. y.radius) r) a in
            let range : in_range (given T).bits x ≡ true = ap (λ g. in_range g.b x) in_order.header ∙ (query-passed h reader radius x q).1.range in (
              record {
                early = λ k. absurd (k (early-query ∙ q));
                sound = λ F s y. answer-sound T reader radius x before n count after b fit range F s;
                open-list = λ y. answer-open T reader radius x before n count after b;
                refused = answer-refused T reader radius x before n count after b;
                working-left =
                    z
                    ∙ ap (λ m. zeroed m 0 (w + summary_of w)) g
                    ∙ zeroed-again (w + summary_of w) T.working
                    ∙ ap (λ v. zeroed T.working 0 (v + summary_of v)) f
                    ∙ left-cleared;
              },
              λ y. b,
            )
