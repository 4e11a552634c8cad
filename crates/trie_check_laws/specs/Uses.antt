-- How often a node stands in a trie.
use Rattle.std.specs.Prelude.{ℕ, ◌+◌}
use Rattle.children.specs.Heap.{hit}
use Rattle.children.specs.Phys.{Phys, Kids, leaf_p, inner_p, no_kid, kid}

abbrev mutual
  pub uses : Phys → ℕ → ℕ
  uses (leaf_p n ps) x = hit n x
  uses (inner_p n ks) x = hit n x + uses_among ks x

  pub uses_among : Kids → ℕ → ℕ
  uses_among no_kid x = 0
  uses_among (kid b t ks) x = uses t x + uses_among ks x
