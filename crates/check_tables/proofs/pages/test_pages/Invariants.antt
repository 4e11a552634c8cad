use Prim.Native.Nat.{◌-◌, ◌≤◌}
use mathlib.Core.Path.{◌≡◌}
use Rattle.layout.specs.Headers.{given_by}
use Rattle.layout.specs.Pages.{is_live}
use Rattle.check_tables.specs.Pages.{page_fits, count_from, test_pages}
use Rattle.check_tables.proofs.pages.test_pages.Given as goal

abbrev pub invariant-loop-p : goal.invariant-loop-p
invariant-loop-p l =
    (count_from (page_fits (given_by l.h) l.pages l.sketches) (is_live l.pages) (l.h.pages - l.p) l.p l.live ≡ test_pages (given_by l.h) l.pages l.sketches)
    × (l.live ≤ l.p)
