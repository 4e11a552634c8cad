-- `search` keeps its promise.
use Rattle.layout.specs.Headers.{numbers}
use Rattle.std.specs.Prelude.{Err}
use Prim.Native.Nat.{◌<◌}
use mathlib.Core.Path.{◌≡◌, refl, sym}
use native.Mathlib.Omega.{arith}
use Rattle.layout.specs.Tables.{Fits}
use Rattle.promises.specs.Tables.{Tables}
use Rattle.refusals.proofs.Refusals.{not_zero}
use Rattle.lent.specs.Lists.{held_with}
use Rattle.entry.proofs.Enters.{Entered, entry-shown}
use Rattle.search.proofs.Enters.{entered-room, entered-bits, entered-cleared, entered-list, entered-summary}
use Rattle.search.proofs.Queries.{query-passed}
use Rattle.search.proofs.Promises.{tables-needed, query-needed, promise-tables, promise-query, promise-found}
use Rattle.search.proofs.search.search.Goals as goal
use Rattle.search.proofs.search.search.Goals.{In_ok-h, In_ok-ask_query}

abbrev lent : In_ok-h → Tables
lent k = held_with k.args.view k.args.working.now

opened : (k : In_ok-h) → Entered (lent k) (numbers k.in_ok-h.h)
opened k = entry-shown (lent k) (numbers k.in_ok-h.h) (sym k.in_ok-h.ensures)

passed : (e : In_ok-ask_query) → (e.args.reader < 256) × Fits (numbers e.in_ok-h.h) e.args.sketch.now
passed e = query-passed _ _ _ _ (sym e.in_ok-ask_query.ensures)

pub clear_marks-requires : goal.clear_marks-requires
clear_marks-requires c = entered-room _ _ (opened (goal.at.clear_marks-requires c).In_ok-h) _ c.map_words-words.ensures

pub entry-classes-requires : goal.entry-classes-requires
entry-classes-requires c = ((opened (goal.at.entry-classes-requires c).In_ok-h).settings-long, omega (arith, (passed (goal.at.entry-classes-requires c).In_ok-ask_query).0))

pub returns-in_err-h-clause-search_promise : goal.returns-in_err-h-clause-search_promise
returns-in_err-h-clause-search_promise c =
    let up : c.from_residual.result ≡ Err c.in_err-h.field-0.0 = grind arith in
    rw (up, tables-needed _ _ (sym c.in_err-h.ensures)) (promise-tables _ _ _ _ _ _ (sym c.in_err-h.ensures)).0

pub returns-in_err-h-clause-model : goal.returns-in_err-h-clause-model
returns-in_err-h-clause-model c =
    let up : c.from_residual.result ≡ Err c.in_err-h.field-0.0 = grind arith in
    rw (up, tables-needed _ _ (sym c.in_err-h.ensures)) (promise-tables _ _ _ _ _ _ (sym c.in_err-h.ensures)).1

pub returns-in_err-ask_query-clause-search_promise : goal.returns-in_err-ask_query-clause-search_promise
returns-in_err-ask_query-clause-search_promise c =
    let up : c.from_residual-in_err-ask_query.result ≡ Err c.in_err-ask_query.field-0.0 = grind arith in
    rw (up, query-needed _ _ _ _ _ c.in_err-ask_query.ensures)
    (promise-query _ _ _ _ _ _ (sym c.in_ok-h.ensures) _ c.map_words-words.ensures _ c.clear_marks.ensures _ c.in_err-ask_query.ensures (not_zero _)).0

pub returns-in_err-ask_query-clause-model : goal.returns-in_err-ask_query-clause-model
returns-in_err-ask_query-clause-model c =
    let up : c.from_residual-in_err-ask_query.result ≡ Err c.in_err-ask_query.field-0.0 = grind arith in
    rw (up, query-needed _ _ _ _ _ c.in_err-ask_query.ensures)
    (promise-query _ _ _ _ _ _ (sym c.in_ok-h.ensures) _ c.map_words-words.ensures _ c.clear_marks.ensures _ c.in_err-ask_query.ensures (not_zero _)).1

pub probe_of-probe-requires : goal.probe_of-probe-requires
probe_of-probe-requires c = record { fits = (passed (goal.at.probe_of-probe-requires c).In_ok-ask_query).1 }

pub invariant_of-trial : goal.invariant_of-trial
invariant_of-trial c =
    let o = opened (goal.at.invariant_of-trial c).In_ok-h in
    let q = (passed (goal.at.invariant_of-trial c).In_ok-ask_query).1 in
    rw c.probe_of-probe.ensures record {
      fitting = record { limits = o.limits; pages = o.pages-long; sketches = o.sketches-long; query = q.count };
      prepared = refl;
    }

pub invariant_of-quest : goal.invariant_of-quest
invariant_of-quest c =
    let o = opened (goal.at.invariant_of-quest c).In_ok-h in
    let q = (passed (goal.at.invariant_of-quest c).In_ok-ask_query).1 in
    rw c.probe_of-probe.ensures record {
      nodes_long = o.nodes-long;
      range = q.range;
      bits = entered-bits _ _ o _ c.map_words-words.ensures;
    }

pub find-requires-clause-room : goal.find-requires-clause-room
find-requires-clause-room c = entered-cleared _ _ (opened (goal.at.find-requires-clause-room c).In_ok-h) _ c.map_words-words.ensures _ c.clear_marks.ensures

pub find-requires-clause-words_value : goal.find-requires-clause-words_value
find-requires-clause-words_value c = entered-list _ _ (opened (goal.at.find-requires-clause-words_value c).In_ok-h) _ c.map_words-words.ensures _ c.clear_marks.ensures

pub find-requires-clause-summarised : goal.find-requires-clause-summarised
find-requires-clause-summarised c = entered-summary _ _ (opened (goal.at.find-requires-clause-summarised c).In_ok-h) _ c.map_words-words.ensures _ c.clear_marks.ensures

pub returns-clause-search_promise : goal.returns-clause-search_promise
returns-clause-search_promise c =
    (promise-found _ _ _ _ _ _ (sym c.in_ok-h.ensures) _ c.map_words-words.ensures _ c.clear_marks.ensures (sym c.in_ok-ask_query.ensures) _ c.entry-classes.ensures _ c.in_ok-h.h refl c.probe_of-probe.ensures
    _ _ _ _ c.find.ensures.answered c.find.ensures.map_after).0

pub returns-clause-model : goal.returns-clause-model
returns-clause-model c =
    (promise-found _ _ _ _ _ _ (sym c.in_ok-h.ensures) _ c.map_words-words.ensures _ c.clear_marks.ensures (sym c.in_ok-ask_query.ensures) _ c.entry-classes.ensures _ c.in_ok-h.h refl c.probe_of-probe.ensures
    _ _ _ _ c.find.ensures.answered c.find.ensures.map_after).1
