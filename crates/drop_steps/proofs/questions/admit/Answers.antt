-- `admit` asks 5, 6, 8 and 9 in their order.
use Rattle.std.specs.Prelude.{Err}
use native.Mathlib.Omega.{arith}
use mathlib.Core.Path.{◌≡◌, refl, sym}
use Rattle.refusals.proofs.Refusals.{not_zero}
use Rattle.entry.proofs.Admits.{pages-fit}
use Rattle.drop_steps.proofs.Admits.{admit-refused, admit-page, admit-all}
use Rattle.drop_steps.proofs.questions.admit.Goals as goal

pub returns-in_err-h : goal.returns-in_err-h
returns-in_err-h c =
    let up : c.from_residual.result ≡ Err c.in_err-h.field-0.0 = grind arith in
    rw up (admit-refused _ _ _ _ _ _ (sym c.in_err-h.ensures))

pub ask_page-requires : goal.ask_page-requires
ask_page-requires c = pages-fit _ _ (sym c.in_ok-h.ensures)

pub returns-in_err-ask_page : goal.returns-in_err-ask_page
returns-in_err-ask_page c =
    let up : c.from_residual-in_err-ask_page.result ≡ Err c.in_err-ask_page.field-0.0 = grind arith in
    rw up (admit-page _ _ _ _ _ _ (sym c.in_ok-h.ensures) _ c.in_err-ask_page.ensures (not_zero _))

pub returns : goal.returns
returns c = admit-all _ _ _ _ _ _ (sym c.in_ok-h.ensures) _ c.in_ok-ask_page.ensures refl
