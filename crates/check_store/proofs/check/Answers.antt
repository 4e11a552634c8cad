-- `check` keeps its promise.
use Rattle.layout.specs.Headers.{numbers}
use Rattle.std.specs.Prelude.{Ok, Err}
use Prim.Native.Nat.{ℕ, ◌≤◌}
use native.Mathlib.Omega.{arith}
use mathlib.Core.Path.{◌≡◌, refl, sym, ◌∙◌}
use lib.ListN.{length, take, drop, length-append, length-drop}
use lib.Seq.{length-take-le}
use Rattle.layout.specs.declared.Numbers.{Numbers}
use Rattle.layout.specs.Header.{bare}
use Rattle.layout.specs.Working.{map_words}
use Rattle.promises.specs.Tables.{Tables}
use Rattle.lent.specs.Lists.{held_with}
use Rattle.entry.specs.Entry.{entry}
use Rattle.check_store.proofs.Admitted.{Admitted, admitted, lent-header, words-most, words-fit, working-long}
use Rattle.check_store.proofs.Promise.{check-refused, check_done}
use Rattle.check_store.proofs.check.Goals as goal
use Rattle.check_store.proofs.check.Goals.{After-map_words-words, After-test_store-sound, In_ok-h}

abbrev lent : In_ok-h → Tables
lent k = held_with k.args.view k.args.working.now

abbrev header : In_ok-h → Numbers
header k = (numbers k.in_ok-h.h)

shows : (k : In_ok-h) → entry (lent k) ≡ Ok (header k)
shows k = sym k.in_ok-h.ensures

known : (k : In_ok-h) → Admitted (lent k) (header k)
known k = admitted (lent k) (header k) (shows k)

-- the map lies in the working table
fits : (T : Tables) (h : Numbers) → entry T ≡ Ok h → (words : ℕ) → words ≡ map_words (bare h) → words ≤ length T.working
fits T h e words w = let k = admitted T h e in omega (arith, w, words-fit T h k, working-long T h k)

inside : (c : After-map_words-words) → c.map_words-words.result ≤ length c.args.working.now
inside c = fits (held_with c.args.view c.args.working.now) (numbers c.in_ok-h.h) (sym c.in_ok-h.ensures) _ c.map_words-words.ensures

map-long : (c : After-map_words-words) → length (take c.map_words-words.result c.args.working.now) ≡ c.map_words-words.result
map-long c = length-take-le _ _ (inside c)

map-kept : (c : After-test_store-sound) → length c.test_store-sound.new.map ≡ c.map_words-words.result
map-kept c =
    let in-working = fits (held_with c.args.view c.args.working.now) (numbers c.in_ok-h.h) (sym c.in_ok-h.ensures) _ c.map_words-words.ensures in
    c.test_store-sound.auto.map ∙ length-take-le _ _ in-working

pub returns-in_err-h : goal.returns-in_err-h
returns-in_err-h c =
    let up : c.from_residual.result ≡ Err c.in_err-h.field-0.0 = grind arith in
    rw up (check-refused _ _ (sym c.in_err-h.ensures), refl)

pub free_link-free-requires : goal.free_link-free-requires
free_link-free-requires c = (known (goal.at.free_link-free-requires c).In_ok-h).settings

pub slice_bounds-test_store-end : goal.slice_bounds-test_store-end
slice_bounds-test_store-end c = inside c

pub slice_bounds-test_store-end-2 : goal.slice_bounds-test_store-end-2
slice_bounds-test_store-end-2 c = sym (map-long (goal.at.slice_bounds-test_store-end-2 c).After-map_words-words)

pub all_current-current-requires : goal.all_current-current-requires
all_current-current-requires c = (known (goal.at.all_current-current-requires c).In_ok-h).settings

pub zero_run-requires : goal.zero_run-requires
zero_run-requires c =
    let t = c in
    let m = t in
    let k = m in
    let words = m.map_words-words.result in
    let working = k.args.working.now in
    omega (
      arith,
      length-append t.test_store-sound.new.map (drop words working),
      length-drop words working,
      map-kept (goal.at.zero_run-requires t).After-test_store-sound,
      inside (goal.at.zero_run-requires m).After-map_words-words,
      c.working_length-needed.ensures,
      working-long _ _ (known (goal.at.zero_run-requires k).In_ok-h),
    )

pub returns : goal.returns
returns c =
    let z = c in
    let n = z in
    let t = n in
    let m = t in (
      check_done _ _ (shows (goal.at.returns m).In_ok-h) _ m.map_words-words.ensures _ m.free_link-free.ensures _ _ t.test_store-sound.ensures
          _ n.all_current-current.ensures (map-kept (goal.at.returns t).After-test_store-sound) _ n.working_length-needed.ensures _ z.zero_run.ensures,
      refl,
    )

pub test_store-sound-requires-clause-lent : goal.test_store-sound-requires-clause-lent
test_store-sound-requires-clause-lent c = let k = c in lent-header _ _ (known (goal.at.test_store-sound-requires-clause-lent k).In_ok-h)

pub test_store-sound-requires-clause-map_len_bound : goal.test_store-sound-requires-clause-map_len_bound
test_store-sound-requires-clause-map_len_bound c = let k = c in omega (arith, map-long (goal.at.test_store-sound-requires-clause-map_len_bound c).After-map_words-words, c.map_words-words.ensures, words-most _ _ (known (goal.at.test_store-sound-requires-clause-map_len_bound k).In_ok-h))
