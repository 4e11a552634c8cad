-- The function `page_fits` is the definition `page_fits`.
use Prim.Native.Nat.{◌≤◌, ◌+◌, ◌*◌}
use native.Mathlib.Omega.{arith}
use mathlib.Core.Path.{ap, ◌∙◌}
use lib.ListN.{length}
use Rattle.layout.specs.Headers.{given_by}
use Rattle.layout.specs.Lengths.{sketches_length}
use Rattle.layout.proofs.Words.{page-inside, signature-inside}
use Rattle.layout.proofs.Rows.{row_inside, length-row}
use Rattle.check_tables.proofs.PageSteps.{fits-signature}
use Rattle.check_tables.proofs.pages.page_fits.Goals as goal
use Rattle.check_tables.proofs.pages.page_fits.Goals.{Start}

-- the row lies in the sketch table
inside : (s : Start) → s.args.p * s.args.h.m + s.args.h.m ≤ length s.args.sketches.now
unfolding sketches_length
inside s = row_inside _ _ _ s.requires.p_lt_pages s.requires.h_in_bounds_2

pub is_live-requires : goal.is_live-requires
is_live-requires c = omega (arith, page-inside (given_by c.args.h) c.requires.p_lt_pages)

pub class_of-requires : goal.class_of-requires
class_of-requires c =
    let entry = c in
    omega (arith, page-inside (given_by entry.args.h) entry.requires.p_lt_pages)

pub signature_word-requires : goal.signature_word-requires
signature_word-requires c =
    let entry = c in
    omega (arith, signature-inside (given_by entry.args.h) entry.requires.p_lt_pages)

pub returns : goal.returns
returns c = search fits-signature

pub signature_of-requires-clause-row_len_bound : goal.signature_of-requires-clause-row_len_bound
signature_of-requires-clause-row_len_bound c = let row = c in let entry = row in let count = ap length row.row-row.ensures.result_value ∙ length-row entry.args.h.m entry.args.sketches.now entry.args.p (inside (goal.at.signature_of-requires-clause-row_len_bound entry).Start) in omega (arith, count, entry.args.h.limits)
