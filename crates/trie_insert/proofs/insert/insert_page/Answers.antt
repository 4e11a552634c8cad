-- `insert_page` meets its contract.
use native.Mathlib.Omega.{arith}
use mathlib.Core.Path.{◌≡◌, refl}
use Rattle.std.specs.Prelude.{Err}
use Rattle.trie_insert.proofs.Steps.{insert-grow, insert-stops}
use Rattle.trie_insert.proofs.insert.insert_page.Goals as goal

pub returns-in_err-target : goal.returns-in_err-target
returns-in_err-target c =
    let up : c.from_residual.result ≡ Err c.in_err-target.field-0.0 = grind arith in
    rw up (insert-stops _ _ _ _ _ _ _ _ _ _ _ _ _ _ c.in_err-target.ensures.result_after _ refl)

pub returns : goal.returns
returns c = insert-grow _ _ _ _ _ _ _ _ _ _ _ _ _ _ c.in_ok-target.ensures.result_after _ refl _ _ _ c.grow_leaf.ensures
