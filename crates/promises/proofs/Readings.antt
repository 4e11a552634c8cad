-- What every reading promises, reading by reading.
use Prim.Native.Nat.{ℕ, ◌≤◌}
use native.Mathlib.Omega.{arith}
use mathlib.Core.Path.{◌≡◌, refl, sym, ◌∙◌}
use mathlib.Core.Bool.{Bool, true, false, cond, not, ◌&&◌, ◌||◌, false≢true}
use mathlib.Core.Logic.{◌≢◌, ◌⊎◌, inl, inr}
use mathlib.Core.List.{List, []}
use lib.Dec.{ltb, leb, eqb}
use lib.ListN.{length}
use borrow.Author.Tests.{eqb-true, eqb-false, eq-eqb, ne_eqb, le-leb}
use Rattle.meaning.specs.Lists.{all}
use Rattle.meaning.specs.Refusal.{first_no}
use Rattle.meaning.specs.Sketch.{in_range}
use Rattle.meaning.specs.SketchCalls.{length_given, output_left}
use Rattle.meaning.specs.Output.{Output, has_room, listing, both_left}
use Rattle.meaning.specs.Trie.{Tree}
use Rattle.meaning.specs.Ledger.{Reading, search, show, check, reading}
use Rattle.meaning.specs.Questions.{asked}
use Rattle.layout.specs.Settings.{shows_opening}
use Rattle.promises.specs.Tables.{Tables, takes_of, given, page_class, page_distance, is_shown, scan, by_tables}
use Rattle.promises.specs.Answers.{long_for, long_settings, long_pages, shown56, entered, number}
use Rattle.promises.specs.Readings.{row_shown, Lists, SearchPromise, CheckPromise, roomy, early_number, working_left, listed_of}
use Rattle.promises.specs.Sound.{Sound}
use Rattle.promises.specs.Relation.{Answer, with_lists, with_row, with_verdict, to_show, Reads}
use Rattle.promises.proofs.Numbers.{number_in, number_behind}

-- the working table that a reading leaves: as it was where it is not taken
unfoldable pub working_after : Tables → Reading → List ℕ
working_after T q = cond (takes_of q).working (working_left T q) T.working

-- what an answer and a working table that keep a reading's promise are
pub record Read (q : Reading) (T : Tables) (a : Answer) (working : List ℕ) : Type 0 where
  pub left : working ≡ working_after T q
  -- refused by 4, 5 or 6
  pub kept : 4 ≤ a.number → a.number ≤ 6 → working ≡ T.working
  pub numbered : (F : List Tree) → Sound T F → a.number ≡ number T F (reading q)

-- and that there are some
pub record Possible (q : Reading) (T : Tables) : Type 0 where
  pub answer : Answer
  pub working : List ℕ
  pub reads : Reads q T answer working

pub record Law (q : Reading) (T : Tables) : Type 0 where
  pub read : (a : Answer) (working : List ℕ) → Reads q T a working → Read q T a working
  pub possible : (F : List Tree) → Sound T F → Possible q T

-- ---- a search

-- 13 is asked last
asked-last : (t5 t6 t7 t10 t11 : Bool) (n : ℕ) →
    cond t5 (cond t6 (cond t7 (cond t10 (cond t11 n 11) 10) 7) 6) 5 ≡
    cond (eqb (cond t5 (cond t6 (cond t7 (cond t10 (cond t11 0 11) 10) 7) 6) 5) 0) n (cond t5 (cond t6 (cond t7 (cond t10 (cond t11 0 11) 10) 7) 6) 5)
asked-last true true true true true n = refl
asked-last true true true true false n = refl
asked-last true true true false t n = refl
asked-last true true false s t n = refl
asked-last true false u s t n = refl
asked-last false v u s t n = refl

-- not 4, 5 or 6
later : ℕ → Bool
later n = not (leb 4 n && leb n 6)

not-later : (n : ℕ) → 4 ≤ n → n ≤ 6 → later n ≢ true
unfolding later
not-later n l m e = false≢true (sym (rw (le-leb 4 n l, le-leb n 6 m)) ∙ e)

-- the count is given with 0 and with 13
either : (t : Bool) (k : ℕ) → cond (eqb (cond t 0 13) 0 || eqb (cond t 0 13) 13) k 0 ≡ k
either true k = refl
either false k = refl

module _ (T : Tables) (r d : ℕ) (x : List ℕ) (o : Output) where
  abbrev early : ℕ
  early = early_number T r d x

  number-search : (F : List Tree) → number T F (reading (search r d x o)) ≡ cond (eqb early 0) (cond (has_room (length (scan T r d x)) o) 0 13) early
  unfolding number entered shown56 long_for asked by_tables first_no has_room
  number-search F =
      rw (le-leb (length (scan T r d x)) (length (scan T r d x)) (omega arith))
      (asked-last (long_settings T) (shows_opening T.settings && long_for (given T) T (reading (search r d x o))) (ltb r 256 && leb d 64)
      (eqb (length x) (given T).symbols) (in_range (given T).bits x) (cond (has_room (length (scan T r d x)) o) 0 13))

  early-later : first_no (entered T (reading (search r d x o))) ≡ 0 → later early ≡ true
  unfolding number entered shown56 long_for asked later all
  early-later e =
      number_behind later (shown56 T (reading (search r d x o))) (asked (by_tables T []) (reading (search r d x (roomy T r d x)))) refl e
      (number_in later (asked (by_tables T []) (reading (search r d x (roomy T r d x)))) refl refl)

  module _ (n count : ℕ) (after : Output) (working : List ℕ) (p : SearchPromise T r d x o n count after working) where
    lists-later : (found : List ℕ) → Lists (page_distance T x) d found o n count after → later n ≡ true
    unfolding later
    lists-later found l = rw l.refusal (go (has_room (length found) o))
      where
        go : (t : Bool) → later (cond t 0 13) ≡ true
        go true = refl
        go false = refl

    -- past 6 it gives another number
    search-later : first_no (entered T (reading (search r d x o))) ≡ 0 → later n ≡ true
    search-later e = go (eqb early 0) refl
      where
        open-later : (n ≡ 14) ⊎ ((met : ℕ → Bool) × Lists (page_distance T x) d (listed_of met T r d x) o n count after) → later n ≡ true
        open-later (inl z) = unfold later in rw z
        open-later (inr l) = lists-later _ l.1

        go : (t : Bool) → eqb early 0 ≡ t → later n ≡ true
        go true z = open-later (p.open-list (eqb-true early 0 z))
        go false z = rw (p.early (eqb-false early 0 z)) (early-later e)

    search-kept : 4 ≤ n → n ≤ 6 → working ≡ T.working
    unfolding working_left
    search-kept l m = p.working-left ∙ rw (ne_eqb (first_no (entered T (reading (search r d x o)))) 0 (λ e. not-later n l m (search-later e)))

    search-number : (F : List Tree) → Sound T F → n ≡ cond (eqb early 0) (cond (has_room (length (scan T r d x)) o) 0 13) early
    search-number F s = go (eqb early 0) refl
      where
        go : (t : Bool) → eqb early 0 ≡ t → n ≡ cond t (cond (has_room (length (scan T r d x)) o) 0 13) early
        go true e = (p.sound F s (eqb-true early 0 e)).refusal
        go false e = p.early (eqb-false early 0 e)

  -- the plain scan keeps its promise
  scanned : ℕ
  scanned = cond (eqb early 0) (cond (has_room (length (scan T r d x)) o) 0 13) early

  abbrev left : Output
  left = both_left scanned (listing (λ p. p) (page_distance T x) d (scan T r d x)) o

  lists : early ≡ 0 → Lists (page_distance T x) d (scan T r d x) o scanned (length_given scanned (length (scan T r d x))) left
  unfolding scanned length_given
  lists e = record {
    refusal = rw (eq-eqb early 0 e);
    counted = rw (eq-eqb early 0 e) (either (has_room (length (scan T r d x)) o) (length (scan T r d x)));
    output = refl;
  }

  scan-promise : SearchPromise T r d x o scanned (length_given scanned (length (scan T r d x))) left (working_left T (search r d x o))
  scan-promise = record {
    early = λ e. unfold scanned in rw (ne_eqb early 0 e);
    sound = λ F s e. lists e;
    open-list = λ e. inr ((λ p. true), unfold listed_of scan in lists e);
    refused = λ z w. unfold length_given both_left output_left in rw (ne_eqb scanned 0 z, ne_eqb scanned 13 w) (refl, refl);
    working-left = refl;
  }

  search-law : Law (search r d x o) T
  unfolding working_after
  search-law = record {
    read = λ a working p. record {
      left = p.working-left;
      kept = search-kept a.number a.count a.output working p;
      numbered = λ F s. search-number a.number a.count a.output working p F s ∙ sym (number-search F);
    };
    possible = λ F s. record {
      answer = with_lists scanned (length_given scanned (length (scan T r d x))) left;
      working = working_left T (search r d x o);
      reads = scan-promise;
    };
  }

-- ---- a show: the tables that it does not take count for nothing
module _ (T : Tables) (r p : ℕ) where
  pub number-show : (F : List Tree) → number (to_show T) [] (reading (show r p)) ≡ number T F (reading (show r p))
  unfolding number entered shown56 long_settings long_for long_pages asked by_tables is_shown page_class
  number-show F = refl

  show-law : Law (show r p) T
  unfolding working_after
  show-law = record {
    read = λ a working h. record { left = h.2; kept = λ l m. h.2; numbered = λ F s. h.0 ∙ number-show F };
    possible = λ F s. record {
      answer = with_row (number (to_show T) [] (reading (show r p))) (row_shown (to_show T) r p);
      working = T.working;
      reads = (refl, refl, refl);
    };
  }

-- ---- a check: 5 and 6 are all that is asked
module _ (T : Tables) where
  number-check : (F : List Tree) → number T F (reading check) ≡ first_no (entered T (reading check))
  unfolding number entered shown56 asked first_no
  number-check F = refl

  -- on a sound store it says yes
  check-promise : (F : List Tree) → Sound T F → CheckPromise T (number T [] (reading check)) (eqb (number T [] (reading check)) 0) (working_left T check)
  check-promise F s = record {
    answers = refl;
    refused = λ z. ne_eqb _ 0 z;
    right = λ e y. (F, s);
    whole = λ e G t. eq-eqb _ 0 e;
    working-left = refl;
  }

  check-law : Law check T
  unfolding working_after working_left
  check-law = record {
    read = λ a working p. record {
      left = p.working-left;
      kept = λ l m. p.working-left ∙ rw (← number-check [], ← p.answers, ne_eqb a.number 0 (omega arith));
      numbered = λ F s. p.answers ∙ number-check [] ∙ sym (number-check F);
    };
    possible = λ F s. record {
      answer = with_verdict (number T [] (reading check)) (eqb (number T [] (reading check)) 0);
      working = working_left T check;
      reads = check-promise F s;
    };
  }

-- ---- every reading
pub law : (q : Reading) (T : Tables) → Law q T
law (search r d x o) T = search-law T r d x o
law (show r p) T = show-law T r p
law check T = check-law T
