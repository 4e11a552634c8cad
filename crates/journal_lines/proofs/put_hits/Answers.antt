-- `put_hits` stores the hits in their order: the line from here on, stored behind what is there, is the whole line.
use Prim.Native.Nat.{ℕ, ◌<◌}
use mathlib.Core.Path.{◌≡◌, ◌∙◌}
use native.Mathlib.Omega.{arith}
use borrow.Author.Rules.{rules}
use mathlib.Core.List.{[], ◌∷◌}
use lib.ListN.{length, get_or, length-append}
use Rattle.std.proofs.lemmas.Slice.Zip.{zip_turn}
use Rattle.journal_lines.proofs.Hits.{hit-stored, hits-long}
use Rattle.journal_lines.proofs.put_hits.Goals as goal
use Rattle.journal_lines.proofs.put_hits.Goals.{In-Some}

-- the pair of this turn
turn : (c : In-Some) →
    let i = length c.loop-page.yielded in
    (i < length c.args.pages.now) × (i < length c.args.distances.now) × ((d : ℕ) → c.in-Some.field-0-0.now ≡ get_or c.args.pages.now i d) × ((d : ℕ) → c.in-Some.field-0-1.now ≡ get_or c.args.distances.now i d)
turn c =
    zip_turn c.args.pages.now c.args.distances.now c.loop-page.yielded c.into_iter-page-iterator.result c.loop-page.page-iterator c.next.new.self c.next.result
    (search rules) (search rules) c.loop-page.yielded_by (c.in-Some.field-0-0, c.in-Some.field-0-1) c.in-Some.is c.next.ensures.steps

pub loop-page-preserved : goal.loop-page-preserved
loop-page-preserved c =
    let pages = c.args.pages.now in
    let distances = c.args.distances.now in
    let kept = c.loop-page.invariant in
    let put = c.put_hit-to.ensures in
    let more = length-append c.loop-page.yielded ((c.in-Some.field-0-0, c.in-Some.field-0-1) ∷ []) in
    let this = turn (goal.at.loop-page-preserved c).In-Some in
    let page = c.from.ensures ∙ this.2 0 in
    let distance = c.from-in-loop-page.ensures ∙ this.3 0 in
    let long = hits-long pages distances _ this.0 this.1 page distance more in
    record {
      stored = hit-stored pages distances _ this.0 this.1 page distance more c.loop-page.out c.loop-page.to put.out_after put.value ∙ kept.stored;
      behind = omega (arith, put.value, long, kept.behind);
      room = omega (arith, put.upper_bound, more, kept.room);
      same = c.put_hit-to.auto.out ∙ kept.same;
    }
