-- The function `leaf_needs` is the definition `leaf_needs`.
use native.Mathlib.Omega.{arith}
use Rattle.blocks.proofs.Bytes.{level-path}
use Rattle.trie_room.proofs.Ways.{leaf-splits, leaf-stays}
use Rattle.trie_room.proofs.needed.leaf_needs.Goals as goal

pub returns-then-growth-k : goal.returns-then-growth-k
returns-then-growth-k c = search leaf-stays

pub returns : goal.returns
returns c = search (leaf-splits, arith)

pub distinct_bytes-requires-clause-sketch_table : goal.distinct_bytes-requires-clause-sketch_table
distinct_bytes-requires-clause-sketch_table c = search (level-path, arith)
