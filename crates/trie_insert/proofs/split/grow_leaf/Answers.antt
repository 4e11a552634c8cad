-- `grow_leaf` meets its contract.
use native.Mathlib.Omega.{arith}
use mathlib.Core.Path.{◌≡◌, refl}
use Rattle.std.specs.Prelude.{Err}
use Rattle.trie_insert.proofs.Steps.{long-below, grow-none, grow-short, grow-split}
use Rattle.trie_insert.proofs.split.grow_leaf.Goals as goal

pub returns-in_err-push_page : goal.returns-in_err-push_page
returns-in_err-push_page c =
    let up : c.from_residual.result ≡ Err c.in_err-push_page.field-0.0 = grind arith in
    rw up (grow-none _ _ _ _ _ _ _ _ _ _ _ _ _ _ _ c.in_err-push_page.ensures _ refl)

pub returns-then-not-too_long : goal.returns-then-not-too_long
returns-then-not-too_long c = grow-short _ _ _ _ _ _ _ _ _ _ _ _ _ _ _ c.in_ok-push_page.ensures refl _ c.too_long.ensures c.if-not-too_long.true

pub returns : goal.returns
returns c = grow-split _ _ _ _ _ _ _ _ _ _ _ _ _ _ _ c.in_ok-push_page.ensures refl _ c.too_long.ensures c.if-not-too_long.false _ _ _ c.split_leaf.ensures

pub split_leaf-requires-clause-k_bound : goal.split_leaf-requires-clause-k_bound
split_leaf-requires-clause-k_bound c = long-below _ _ _ _ _ _ _ _ _ c.too_long.ensures c.if-not-too_long.false c.args.growth.now.row_table
