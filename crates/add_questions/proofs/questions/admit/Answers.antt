-- `admit` asks 5 to 11 and 15 in their order.
use Rattle.std.specs.Prelude.{Err}
use native.Mathlib.Omega.{arith}
use mathlib.Core.Path.{◌≡◌, refl, sym, ap, ◌∙◌}
use mathlib.Core.Bool.{not}
use Rattle.refusals.proofs.Refusals.{not_zero}
use Rattle.entry.proofs.Questions.{fails, holds}
use Rattle.entry.proofs.Admits.{pages-fit, shown-limits}
use Rattle.add_questions.proofs.Admits.{admit-refused, admit-7, admit-page, admit-10, admit-11, admit-15, admit-all}
use Rattle.add_questions.proofs.questions.admit.Goals as goal

pub returns-in_err-h : goal.returns-in_err-h
returns-in_err-h c =
    let up : c.from_residual.result ≡ Err c.in_err-h.field-0.0 = grind arith in
    rw up (admit-refused _ _ _ _ _ _ _ _ (sym c.in_err-h.ensures))

pub returns-then-class-ge-CLASSES : goal.returns-then-class-ge-CLASSES
returns-then-class-ge-CLASSES c = admit-7 _ _ _ _ _ _ _ _ (sym c.in_ok-h.ensures) c.if-class-ge-CLASSES.true

pub ask_page-requires : goal.ask_page-requires
ask_page-requires c = pages-fit _ _ (sym c.in_ok-h.ensures)

pub returns-in_err-ask_page : goal.returns-in_err-ask_page
returns-in_err-ask_page c =
    let up : c.from_residual-in_err-ask_page.result ≡ Err c.in_err-ask_page.field-0.0 = grind arith in
    rw up (admit-page _ _ _ _ _ _ _ _ (sym c.in_ok-h.ensures) c.if-class-ge-CLASSES.false _ c.in_err-ask_page.ensures (not_zero _))

pub returns-then-sketch-h : goal.returns-then-sketch-h
returns-then-sketch-h c =
    admit-10 _ _ _ _ _ _ _ _ (sym c.in_ok-h.ensures) c.if-class-ge-CLASSES.false _ c.in_ok-ask_page.ensures refl c.if-sketch-h.true

pub overflow_cast-h : goal.overflow_cast-h
overflow_cast-h c = omega (arith, shown-limits _ _ (sym c.in_ok-h.ensures))

pub in_range-requires : goal.in_range-requires
in_range-requires c = omega (arith, shown-limits _ _ (sym c.in_ok-h.ensures))

pub returns-then-not-in_range : goal.returns-then-not-in_range
returns-then-not-in_range c =
    admit-11 _ _ _ _ _ _ _ _ (sym c.in_ok-h.ensures) c.if-class-ge-CLASSES.false _ c.in_ok-ask_page.ensures refl c.if-sketch-h.false
    (fails c.in_range.ensures (ap not c.if-not-in_range.true))

pub returns-then-blank : goal.returns-then-blank
returns-then-blank c =
    admit-15 _ _ _ _ _ _ _ _ (sym c.in_ok-h.ensures) c.if-class-ge-CLASSES.false _ c.in_ok-ask_page.ensures refl c.if-sketch-h.false
    (holds c.in_range.ensures (ap not c.if-not-in_range.false)) (sym c.blank.ensures ∙ c.if-blank.true)

pub returns : goal.returns
returns c =
    admit-all _ _ _ _ _ _ _ _ (sym c.in_ok-h.ensures) c.if-class-ge-CLASSES.false _ c.in_ok-ask_page.ensures refl c.if-sketch-h.false
    (holds c.in_range.ensures (ap not c.if-not-in_range.false)) (sym c.blank.ensures ∙ c.if-blank.false)
