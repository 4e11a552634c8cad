-- `split_pages` is `split_from`: each turn takes one step of the definition.
use native.Mathlib.Omega.{arith}
use mathlib.Core.Path.{◌≡◌}
use Rattle.std.specs.Prelude.{Err}
use Rattle.trie_insert.proofs.Steps.{split-out, split-end, split-broken, split-next, split-stops}
use Rattle.trie_insert.proofs.split.split_pages.Goals as goal

pub returns-then-link-eq0 : goal.returns-then-link-eq0
returns-then-link-eq0 c = search (split-end, arith)

pub returns-then-p-block : goal.returns-then-p-block
returns-then-p-block c = search (split-broken, arith)

pub loop-preserved : goal.loop-preserved
loop-preserved c = (search (split-next, arith), omega arith, omega arith)

pub returns-in_err-grown : goal.returns-in_err-grown
returns-in_err-grown c =
    let up : c.from_residual.result ≡ Err c.in_err-grown.field-0.0 = grind arith in
    rw up (search (split-stops, arith))

pub returns : goal.returns
returns c = search (split-out, arith)
