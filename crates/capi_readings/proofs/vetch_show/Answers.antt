-- `vetch_show` gives what `find_row` finds, part by part, and the row is the part of the sketch table that stands there.
use mathlib.Core.Path.{refl, ◌∙◌}
use Rattle.show_page.proofs.Shows.{found-number, found-part, found-start, found-length}
use Rattle.capi_readings.proofs.vetch_show.Goals as goal

pub returns-in-Ok-clause-on_show : goal.returns-in-Ok-clause-on_show
returns-in-Ok-clause-on_show c = λ nodes working. ((found-number _ _ _ _ _ _ c.in-Ok.ensures, found-part _ _ _ _ _ _ c.in-Ok.ensures, refl), refl)

pub returns-in-Ok-clause-start_after : goal.returns-in-Ok-clause-start_after
returns-in-Ok-clause-start_after c = found-start _ _ _ _ _ _ c.in-Ok.ensures

pub returns-in-Ok-clause-length_after : goal.returns-in-Ok-clause-length_after
returns-in-Ok-clause-length_after c = found-length _ _ _ _ _ _ c.in-Ok.ensures

pub returns-in-Err-clause-on_show : goal.returns-in-Err-clause-on_show
returns-in-Err-clause-on_show c =
    λ nodes working. ((c.number.ensures ∙ found-number _ _ _ _ _ _ c.in-Err.ensures, found-part _ _ _ _ _ _ c.in-Err.ensures, refl), refl)

pub returns-in-Err-clause-start_after : goal.returns-in-Err-clause-start_after
returns-in-Err-clause-start_after c = found-start _ _ _ _ _ _ c.in-Err.ensures

pub returns-in-Err-clause-length_after : goal.returns-in-Err-clause-length_after
returns-in-Err-clause-length_after c = found-length _ _ _ _ _ _ c.in-Err.ensures
