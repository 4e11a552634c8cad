-- `add` keeps its promise.
use Rattle.layout.specs.Headers.{numbers}
use Rattle.std.specs.Prelude.{Ok, Err}
use native.Mathlib.Omega.{arith}
use mathlib.Core.Path.{◌≡◌, refl, sym, ap, ◌∙◌}
use Rattle.meaning.specs.Ledger.{add}
use Rattle.refusals.specs.Refusals.{number_of}
use Rattle.lent.specs.Lists.{lists}
use Rattle.entry.specs.Admission.{admission}
use Rattle.add_page.proofs.Puts.{add-refused, add-placed}
use Rattle.add_laws.proofs.Adds.{add-promise}
use Rattle.add_page.proofs.add.add.Goals as goal
use Rattle.add_page.proofs.add.add.Goals.{In_ok-h, In_err-h}

shows : (k : In_ok-h) → let a = k.args in Ok (numbers k.in_ok-h.h) ≡ admission (lists a.index.now a.sketches.now) (add a.page a.class a.sketch.now)
shows k = let a = k.args in k.in_ok-h.ensures ∙ ap (λ T. admission T (add a.page a.class a.sketch.now)) k.view.ensures

refused : (k : In_err-h) → let a = k.args in Err (number_of k.in_err-h.field-0.0) ≡ admission (lists a.index.now a.sketches.now) (add a.page a.class a.sketch.now)
refused k = let a = k.args in k.in_err-h.ensures ∙ ap (λ T. admission T (add a.page a.class a.sketch.now)) k.view.ensures

pub place_page-requires : goal.place_page-requires
place_page-requires c = sym (shows (goal.at.place_page-requires c).In_ok-h)

pub returns-in_err-h-clause-add_promise : goal.returns-in_err-h-clause-add_promise
returns-in_err-h-clause-add_promise c =
    let up : c.from_residual.result ≡ Err c.in_err-h.field-0.0 = grind arith in
    rw up (add-promise _ _ _ _ _ _ (add-refused (lists c.args.index.now c.args.sketches.now) _ _ _ _ (refused (goal.at.returns-in_err-h-clause-add_promise c).In_err-h) _ refl)).0

pub returns-clause-add_promise : goal.returns-clause-add_promise
returns-clause-add_promise c =
    (add-promise _ _ _ _ _ _
    (c.place_page.ensures.model ∙ add-placed (lists c.args.index.now c.args.sketches.now) _ _ _ _ (shows (goal.at.returns-clause-add_promise c).In_ok-h) _ refl)).0

pub returns-in_err-h-clause-model : goal.returns-in_err-h-clause-model
returns-in_err-h-clause-model c =
    let up : c.from_residual.result ≡ Err c.in_err-h.field-0.0 = grind arith in
    rw up (add-promise _ _ _ _ _ _ (add-refused (lists c.args.index.now c.args.sketches.now) _ _ _ _ (refused (goal.at.returns-in_err-h-clause-model c).In_err-h) _ refl)).1

pub returns-clause-model : goal.returns-clause-model
returns-clause-model c =
    (add-promise _ _ _ _ _ _
    (c.place_page.ensures.model ∙ add-placed (lists c.args.index.now c.args.sketches.now) _ _ _ _ (shows (goal.at.returns-clause-model c).In_ok-h) _ refl)).1
