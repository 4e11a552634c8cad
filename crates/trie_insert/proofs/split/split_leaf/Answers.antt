-- `split_leaf` meets its contract.
use Rattle.blocks.proofs.Bytes.{level-path}
use Rattle.trie_insert.proofs.split.split_leaf.Goals as goal

pub split_pages-requires-clause-sketch_table : goal.split_pages-requires-clause-sketch_table
split_pages-requires-clause-sketch_table c = search level-path
