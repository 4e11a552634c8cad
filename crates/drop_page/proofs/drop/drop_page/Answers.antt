-- `drop_page` keeps its promise, on each way out.
use Rattle.layout.specs.Headers.{numbers}
use Rattle.std.specs.Prelude.{Ok, Err, Some, None}
use native.Mathlib.Omega.{arith}
use mathlib.Core.Path.{◌≡◌, ap, ◌∙◌}
use Rattle.meaning.specs.Ledger.{drop}
use Rattle.refusals.specs.declared.Refusal.TheVariants.{Unsound}
use Rattle.refusals.specs.Refusals.{number_of}
use Rattle.lent.specs.Lists.{lists}
use Rattle.entry.specs.Admission.{admission}
use Rattle.drop_page.proofs.Exits.{refuses, settings-long, lent, page-in, word_in, drops, breaks}
use Rattle.drop_page.proofs.drop.drop_page.Goals as goal
use Rattle.drop_page.proofs.drop.drop_page.Goals.{In_ok-h, In_err-h}

shows : (k : In_ok-h) → Ok (numbers k.in_ok-h.h) ≡ admission (lists k.args.index.now k.args.sketches.now) (drop k.args.page)
shows k = k.in_ok-h.ensures ∙ ap (λ T. admission T (drop k.args.page)) k.view.ensures

refused : (k : In_err-h) → Err (number_of k.in_err-h.field-0.0) ≡ admission (lists k.args.index.now k.args.sketches.now) (drop k.args.page)
refused k = k.in_err-h.ensures ∙ ap (λ T. admission T (drop k.args.page)) k.view.ensures

pub free_link-free-requires : goal.free_link-free-requires
free_link-free-requires c = settings-long _ _ _ _ _ _ (shows (goal.at.free_link-free-requires c).In_ok-h)

pub set_free_link-requires : goal.set_free_link-requires
set_free_link-requires c = settings-long _ _ _ _ _ _ (shows (goal.at.set_free_link-requires c).In_ok-h)

pub strike_page-requires : goal.strike_page-requires
strike_page-requires c = omega (arith, word_in _ _ _ _ _ _ (shows (goal.at.strike_page-requires c).In_ok-h))

pub remove_all-requires-clause-lent : goal.remove_all-requires-clause-lent
remove_all-requires-clause-lent c = lent _ _ _ _ _ _ (shows (goal.at.remove_all-requires-clause-lent c).In_ok-h)

pub remove_all-requires-clause-p_lt_pages : goal.remove_all-requires-clause-p_lt_pages
remove_all-requires-clause-p_lt_pages c = page-in _ _ _ _ _ _ (shows (goal.at.remove_all-requires-clause-p_lt_pages c).In_ok-h)

pub returns-in_err-h-clause-drop_promise : goal.returns-in_err-h-clause-drop_promise
returns-in_err-h-clause-drop_promise c =
    let up : c.from_residual.result ≡ Err c.in_err-h.field-0.0 = grind arith in
    rw up (refuses _ _ _ _ _ _ (refused (goal.at.returns-in_err-h-clause-drop_promise c).In_err-h)).0

pub returns-in_err-link-clause-drop_promise : goal.returns-in_err-link-clause-drop_promise
returns-in_err-link-clause-drop_promise c =
    let up : c.from_residual-in_err-link.result ≡ Err Unsound = grind arith in
    let none : c.remove_all.result ≡ None = grind arith in
    rw up (breaks _ _ _ _ _ _ (shows (goal.at.returns-in_err-link-clause-drop_promise c).In_ok-h) _ _ _ _ c.free_link-free.ensures c.remove_all.ensures none).0

pub returns-clause-drop_promise : goal.returns-clause-drop_promise
returns-clause-drop_promise c =
    let some : c.remove_all.result ≡ Some c.in_ok-link.link = grind arith in
    (drops _ _ _ _ _ _ (shows (goal.at.returns-clause-drop_promise c).In_ok-h) _ _ _ _ c.free_link-free.ensures c.remove_all.ensures _ some _ _ c.set_free_link.ensures c.strike_page.ensures).0

pub returns-in_err-h-clause-model : goal.returns-in_err-h-clause-model
returns-in_err-h-clause-model c =
    let up : c.from_residual.result ≡ Err c.in_err-h.field-0.0 = grind arith in
    rw up (refuses _ _ _ _ _ _ (refused (goal.at.returns-in_err-h-clause-model c).In_err-h)).1

pub returns-in_err-link-clause-model : goal.returns-in_err-link-clause-model
returns-in_err-link-clause-model c =
    let up : c.from_residual-in_err-link.result ≡ Err Unsound = grind arith in
    let none : c.remove_all.result ≡ None = grind arith in
    rw up (breaks _ _ _ _ _ _ (shows (goal.at.returns-in_err-link-clause-model c).In_ok-h) _ _ _ _ c.free_link-free.ensures c.remove_all.ensures none).1

pub returns-clause-model : goal.returns-clause-model
returns-clause-model c =
    let some : c.remove_all.result ≡ Some c.in_ok-link.link = grind arith in
    (drops _ _ _ _ _ _ (shows (goal.at.returns-clause-model c).In_ok-h) _ _ _ _ c.free_link-free.ensures c.remove_all.ensures _ some _ _ c.set_free_link.ensures c.strike_page.ensures).1
