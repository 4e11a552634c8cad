-- `show` gives the part that `find_row` finds, or none.
use native.Mathlib.Nat.{add-sub_cancel_left}
use mathlib.Core.Path.{refl}
use Rattle.show_page.proofs.Shows.{found-inside, found-part}
use Rattle.show_page.proofs.show.show.Goals as goal

pub slice_bounds-result-end : goal.slice_bounds-result-end
slice_bounds-result-end c = found-inside _ _ _ _ _ _ c.in-Ok.ensures

pub returns-in-Ok-clause-on_show : goal.returns-in-Ok-clause-on_show
returns-in-Ok-clause-on_show c = rw add-sub_cancel_left (λ nodes working. ((refl, found-part _ _ _ _ _ _ c.in-Ok.ensures, refl), refl))

pub returns-in-Err-clause-on_show : goal.returns-in-Err-clause-on_show
returns-in-Err-clause-on_show c = λ nodes working. ((refl, found-part _ _ _ _ _ _ c.in-Err.ensures, refl), refl)
