-- `lay_out` leaves the tables of an opening.
use Rattle.layout.specs.Headers.{given_by}
use Rattle.layout.specs.Header.{bare}
use Rattle.open.proofs.Opens.{pages-written}
use Rattle.open.proofs.lay_out.Goals as goal

pub returns-clause-pages_after : goal.returns-clause-pages_after
returns-clause-pages_after c =
    rw (c.zero_run.ensures, c.pages_length.ensures)
    (pages-written (given_by c.args.h) c.args.index.now.pages.now c.requires.h_in_bounds_2)
