-- `find_row` is `place_of`.
use Prim.Native.Nat.{◌<◌}
use native.Mathlib.Omega.{arith}
use mathlib.Core.Path.{◌≡◌, sym, ◌∙◌}
use mathlib.Core.Bool.{true}
use lib.ListN.{length}
use Rattle.layout.specs.Headers.{numbers}
use Rattle.std.specs.Prelude.{Err}
use Rattle.layout.proofs.Openings.{shown}
use Rattle.show_page.proofs.Shows.{long_for6, row-refused, row-6, row-7, row-8, word-inside, start_fits, row-missing, row-closed, row-shown}
use Rattle.show_page.proofs.show.find_row.Goals as goal
use Rattle.show_page.proofs.show.find_row.Goals.{Else-cap-p, Else-not-long_pages}

-- 6 of the other two
long : (c : Else-not-long_pages) → long_for6 (numbers c.in_ok-h.h) c.args.pages.now c.args.sketches.now ≡ true
long c = sym c.long_pages.ensures ∙ c.if-not-long_pages.false

-- the page word stands in the table
inside : (c : Else-cap-p) → c.args.page < length c.args.pages.now
inside c = word-inside _ _ c.if-cap-p.false c.args.pages.now c.args.sketches.now (long (goal.at.is_live-requires c).Else-not-long_pages)

pub returns-in_err-h : goal.returns-in_err-h
returns-in_err-h c =
    let up : c.from_residual.result ≡ Err c.in_err-h.field-0.0 = grind arith in
    rw up (row-refused _ _ _ _ _ _ (sym c.in_err-h.ensures))

pub returns-then-not-long_pages : goal.returns-then-not-long_pages
returns-then-not-long_pages c = row-6 _ _ _ _ _ _ (sym c.in_ok-h.ensures) (sym c.long_pages.ensures ∙ c.if-not-long_pages.true)

pub returns-then-reader-ge-READERS : goal.returns-then-reader-ge-READERS
returns-then-reader-ge-READERS c =
    row-7 _ _ _ _ _ _ (sym c.in_ok-h.ensures) (long (goal.at.returns-then-reader-ge-READERS c).Else-not-long_pages) c.if-reader-ge-READERS.true

pub returns-then-cap-p : goal.returns-then-cap-p
returns-then-cap-p c =
    row-8 _ _ _ _ _ _ (sym c.in_ok-h.ensures) (long (goal.at.returns-then-cap-p c).Else-not-long_pages) c.if-reader-ge-READERS.false c.if-cap-p.true

pub is_live-requires : goal.is_live-requires
is_live-requires c = inside c

pub returns-then-not-is_live : goal.returns-then-not-is_live
returns-then-not-is_live c =
    row-missing _ _ _ _ _ _ (sym c.in_ok-h.ensures) (long (goal.at.returns-then-not-is_live c).Else-not-long_pages) c.if-reader-ge-READERS.false c.if-cap-p.false
    (sym c.is_live.ensures ∙ c.if-not-is_live.true)

pub class_of-class-requires : goal.class_of-class-requires
class_of-class-requires c = inside (goal.at.class_of-class-requires c).Else-cap-p

pub is_open_to-requires : goal.is_open_to-requires
is_open_to-requires c = ((shown _ _ (sym c.in_ok-h.ensures)).long, c.if-reader-ge-READERS.false)

pub returns-then-not-is_open_to : goal.returns-then-not-is_open_to
returns-then-not-is_open_to c =
    row-closed _ _ _ _ _ _ (sym c.in_ok-h.ensures) (long (goal.at.returns-then-not-is_open_to c).Else-not-long_pages) c.if-reader-ge-READERS.false c.if-cap-p.false
    (sym c.is_live.ensures ∙ c.if-not-is_live.false)
    _
    c.class_of-class.ensures
    (sym c.is_open_to.ensures ∙ c.if-not-is_open_to.true)

pub overflow_cast-length : goal.overflow_cast-length
overflow_cast-length c = omega (arith, (shown _ _ (sym c.in_ok-h.ensures)).limits)

pub overflow_mul-result : goal.overflow_mul-result
overflow_mul-result c = record { fits = start_fits _ _ c.if-cap-p.false (shown _ _ (sym c.in_ok-h.ensures)).limits }

pub returns : goal.returns
returns c =
    row-shown _ _ _ _ _ _ (sym c.in_ok-h.ensures) (long (goal.at.returns c).Else-not-long_pages) c.if-reader-ge-READERS.false c.if-cap-p.false
    (sym c.is_live.ensures ∙ c.if-not-is_live.false)
    _
    c.class_of-class.ensures
    (sym c.is_open_to.ensures ∙ c.if-not-is_open_to.false)
