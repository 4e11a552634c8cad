-- `measure` is `row_distance`.
use Prim.Native.Nat.{◌+◌, ◌*◌, ◌≤◌}
use native.Mathlib.Omega.{arith}
use mathlib.Core.Path.{◌≡◌, sym, ap, ◌∙◌}
use lib.ListN.{length}
use Rattle.layout.specs.Lengths.{sketches_length}
use Rattle.layout.specs.Pages.{row_of}
use Rattle.layout.proofs.Rows.{row_inside, length-row}
use Rattle.hits.proofs.measure.Goals as goal
use Rattle.hits.proofs.measure.Goals.{Start}

-- the row lies in the table
inside : (c : Start) → c.args.p * c.args.h.m + c.args.h.m ≤ length c.args.sketches.now
unfolding sketches_length
inside c = row_inside c.args.h.m c.args.h.pages (length c.args.sketches.now) c.requires.p_lt_pages c.requires.h_in_bounds

long : (c : Start) → length (row_of c.args.h.m c.args.sketches.now c.args.p) ≡ c.args.h.m
long c = length-row _ _ _ (inside c)

pub distance-requires-clause-xs_len : goal.distance-requires-clause-xs_len
distance-requires-clause-xs_len c = ap length c.row.ensures.result_value ∙ long (goal.at.distance-requires-clause-xs_len c).Start ∙ sym c.requires.query_len

pub distance-requires-clause-xs_len_bound : goal.distance-requires-clause-xs_len_bound
distance-requires-clause-xs_len_bound c =
    omega (arith, ap length c.row.ensures.result_value, long (goal.at.distance-requires-clause-xs_len_bound c).Start, c.args.h.limits.symbols-most)
