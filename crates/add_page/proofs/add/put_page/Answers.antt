-- The function `put_page` is the definition `put_page`.
use native.Mathlib.Omega.{arith}
use mathlib.Core.List.{[]}
use mathlib.Core.Path.{◌≡◌}
use Rattle.layout.specs.Headers.{numbers}
use Rattle.std.specs.Prelude.{Err, Some, None}
use Rattle.refusals.specs.declared.Refusal.TheVariants.{Unsound}
use Rattle.lent.specs.Lists.{lists}
use borrow.Author.Rules.{rules}
use Rattle.promises.specs.Tables.{Tables}
use Rattle.add_laws.proofs.KeepsAsked.{Accepted, accepted}
use Rattle.add_laws.proofs.Passed.{Passed, told-shown, row_fits, lent_row, words-fit}
use Rattle.add_page.proofs.Puts.{put-free, put-broken}
use Rattle.add_page.proofs.add.put_page.Goals as goal
use Rattle.add_page.proofs.add.put_page.Goals.{Start}

abbrev lent : Start → Tables
lent s = lists s.args.index.now s.args.sketches.now

passed : (s : Start) → Passed (lent s) (numbers s.args.h) s.args.p s.args.sketch.now
passed s = (told-shown (lent s) s.args.p s.args.class s.args.sketch.now (numbers s.args.h) s.requires).1

asked : (s : Start) → Accepted (lent s) [] s.args.p s.args.class s.args.sketch.now
asked s = accepted (lent s) _ _ _ [] (told-shown (lent s) s.args.p s.args.class s.args.sketch.now (numbers s.args.h) s.requires).0

pub free_link-free-requires : goal.free_link-free-requires
free_link-free-requires c = (passed (goal.at.free_link-free-requires c).Start).long

pub thresholds-thresholds-requires : goal.thresholds-thresholds-requires
thresholds-thresholds-requires c = (passed (goal.at.thresholds-thresholds-requires c).Start).long

pub set_free_link-requires : goal.set_free_link-requires
set_free_link-requires c = (passed (goal.at.set_free_link-requires c).Start).long

pub overflow_cast-h : goal.overflow_cast-h
overflow_cast-h c = omega (arith, (passed (goal.at.overflow_cast-h c).Start).lent.limits)

pub returns-clause-model : goal.returns-clause-model
returns-clause-model c =
    let s = (goal.at.returns-clause-model c).Start in
    let some : c.insert_all.result ≡ Some c.in_ok-link.link = grind arith in
    put-free (lent s) _ (passed s).header _ _ _ _ c.thresholds-thresholds.ensures _ c.free_link-free.ensures
    _ c.write_row.ensures _ _ _ c.insert_all.ensures _ some
    _ c.set_free_link.ensures
    (passed s).fits.range _ c.signature_of-signature.ensures _ c.write_page.ensures

pub returns-in_err-link-clause-model : goal.returns-in_err-link-clause-model
returns-in_err-link-clause-model c =
    let s = (goal.at.returns-in_err-link-clause-model c).Start in
    let up : c.from_residual.result ≡ Err Unsound = grind arith in
    let none : c.insert_all.result ≡ None = grind arith in
    rw up (put-broken (lent s) _ (passed s).header _ _ _ _ c.thresholds-thresholds.ensures _ c.free_link-free.ensures
    _ c.write_row.ensures _ _ _ c.insert_all.ensures none)

pub write_row-requires-clause-m_in_bounds : goal.write_row-requires-clause-m_in_bounds
write_row-requires-clause-m_in_bounds c = row_fits _ _ _ _ (passed (goal.at.write_row-requires-clause-m_in_bounds c).Start)

pub write_row-requires-clause-x_len : goal.write_row-requires-clause-x_len
write_row-requires-clause-x_len c = (passed (goal.at.write_row-requires-clause-x_len c).Start).fits.count

pub insert_all-requires-clause-lent : goal.insert_all-requires-clause-lent
insert_all-requires-clause-lent c = let k = c in let ok = passed (goal.at.insert_all-requires-clause-lent k).Start in lent_row _ _ _ _ ok _ c.write_row.ensures

pub insert_all-requires-clause-fits : goal.insert_all-requires-clause-fits
insert_all-requires-clause-fits c = let k = c in let ok = passed (goal.at.insert_all-requires-clause-fits k).Start in ok.fits

pub insert_all-requires-clause-p_lt_pages : goal.insert_all-requires-clause-p_lt_pages
insert_all-requires-clause-p_lt_pages c = let k = c in let ok = passed (goal.at.insert_all-requires-clause-p_lt_pages k).Start in ok.page

pub signature_of-signature-requires-clause-bits : goal.signature_of-signature-requires-clause-bits
signature_of-signature-requires-clause-bits c = let ok = passed (goal.at.signature_of-signature-requires-clause-bits c).Start in (ok.lent.limits.bits-least, ok.lent.limits.bits_most)

pub signature_of-signature-requires-clause-row_len_bound : goal.signature_of-signature-requires-clause-row_len_bound
signature_of-signature-requires-clause-row_len_bound c = let ok = passed (goal.at.signature_of-signature-requires-clause-row_len_bound c).Start in omega (arith, ok.fits.count, ok.lent.limits)

pub write_page-requires-clause-p_lt_cap : goal.write_page-requires-clause-p_lt_cap
write_page-requires-clause-p_lt_cap c = let k = c in let ok = passed (goal.at.write_page-requires-clause-p_lt_cap k).Start in (ok.page, words-fit _ _ _ _ ok k.insert_all.new.pages (search rules))

pub write_page-requires-clause-class_bound : goal.write_page-requires-clause-class_bound
write_page-requires-clause-class_bound c = let k = c in let ok = passed (goal.at.write_page-requires-clause-class_bound k).Start in (asked (goal.at.write_page-requires-clause-class_bound k).Start).class
