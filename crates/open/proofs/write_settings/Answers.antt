-- `write_settings` leaves the settings table of an opening.
use native.Mathlib.Omega.{arith}
use Rattle.layout.specs.Headers.{numbers}
use Rattle.layout.specs.Header.{with_thresholds}
use Rattle.open.proofs.Opens.{settings-written}
use Rattle.open.proofs.write_settings.Goals as goal

pub returns : goal.returns
returns c =
    let link = c in
    let zeros = link in
    let header = zeros in
    let entry = header in
    let s = with_thresholds (numbers entry.args.h) entry.args.thresholds.now in
    rw (c.set_free_link.ensures, zeros.zero_run.ensures, header.write_header.ensures, link.free_link.ensures)
    (settings-written s entry.args.settings.now (omega arith) (omega arith))
