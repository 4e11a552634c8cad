-- The function `insert_all` is the definition `insert_all`.
use native.Mathlib.Omega.{arith}
use borrow.Author.Rules.{rules}
use mathlib.Core.Path.{◌≡◌}
use Rattle.std.specs.Prelude.{Ok, None}
use Rattle.add_laws.proofs.Inserts.{insert-start, insert-done, insert-more, insert-stopped}
use Rattle.add_page.proofs.insert.insert_all.Goals as goal

pub loop-j-init : goal.loop-j-init
loop-j-init c = (insert-start _ _ _ _ _ _ _, search rules, search rules)

pub loop-j-preserved : goal.loop-j-preserved
loop-j-preserved c =
    let done : c.insert_block.result ≡ Ok c.in_ok-grown.grown = grind arith in
    (insert-more _ _ _ _ _ _ _ _ _ c.loop-j.invariant.0 (omega arith) _ _ _ c.insert_block.ensures _ done, omega arith, omega arith)

pub returns-in_err-grown : goal.returns-in_err-grown
returns-in_err-grown c =
    let up : c.from_residual.result ≡ None = grind arith in
    rw up (insert-stopped _ _ _ _ _ _ _ _ _ c.loop-j.invariant.0 (omega arith) _ _ _ c.insert_block.ensures (grind arith))

pub returns : goal.returns
returns c = insert-done _ _ _ _ _ _ _ _ _ c.loop-j.invariant.0 (omega arith)
