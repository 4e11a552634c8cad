-- `remove_page` meets its contract.
use mathlib.Core.Path.{◌≡◌}
use native.Mathlib.Omega.{arith}
use Rattle.std.specs.Prelude.{Some}
use Rattle.trie.specs.declared.path.Reach.TheVariants.{Leaf}
use Rattle.trie_remove.proofs.Prunes.{noted-within}
use Rattle.trie_remove.proofs.Steps.{remove-leaf}
use Rattle.trie_remove.proofs.remove_page.Goals as goal

pub remove_at-requires-clause-in_table : goal.remove_at-requires-clause-in_table
remove_at-requires-clause-in_table c =
    let is : c.trace_to.result ≡ Some (Leaf c.in-Leaf.leaf) = grind arith in
    noted-within _ _ _ _ (omega arith) (λ k. omega (arith, c.type_inv.bytes k)) _ _ is _ c.trace_to.ensures.path

pub returns-in-Leaf : goal.returns-in-Leaf
returns-in-Leaf c =
    let is : c.trace_to.result ≡ Some (Leaf c.in-Leaf.leaf) = grind arith in
    search (remove-leaf, is)
