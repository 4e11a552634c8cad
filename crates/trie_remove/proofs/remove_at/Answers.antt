-- `remove_at` meets its contract.
use Rattle.trie_remove.proofs.Steps.{first_small}
use Rattle.trie_remove.proofs.remove_at.Goals as goal

pub take_page-requires-clause-first_le_most_pages : goal.take_page-requires-clause-first_le_most_pages
take_page-requires-clause-first_le_most_pages c = search first_small
