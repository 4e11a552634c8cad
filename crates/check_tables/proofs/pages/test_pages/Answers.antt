-- The function `test_pages` is the definition `test_pages`.
use native.Mathlib.Omega.{arith}
use Rattle.layout.specs.Headers.{given_by}
use Rattle.layout.proofs.Words.{page-inside}
use Rattle.leaf_bytes.proofs.Count.{flag-most}
use Rattle.check_tables.proofs.PageSteps.{count-done, count-fails, count-more}
use Rattle.check_tables.proofs.pages.test_pages.Goals as goal

pub returns-then-not-page_fits : goal.returns-then-not-page_fits
returns-then-not-page_fits c = search count-fails

pub is_live-requires : goal.is_live-requires
is_live-requires c =
    let entry = c in
    omega (arith, page-inside (given_by entry.args.h) c.loop-p-test.true)

pub loop-p-preserved : goal.loop-p-preserved
loop-p-preserved c = (search count-more, omega (arith, flag-most c.is_live.result))

pub returns : goal.returns
returns c = search count-done
