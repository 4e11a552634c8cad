-- What `shorten_leaf` and `remove_page` compute: N is the node table and P the page table.
use Rattle.std.specs.Prelude.{ℕ, cond, List, ltb, set, Option, Some, None, Ok, Err}
use Rattle.layout.specs.Nodes.{state_at, empty_state}
use Rattle.layout.specs.States.{kind_of, first_of, shorter}
use Rattle.trie.specs.declared.path.Reach.{Reach}
use Rattle.trie.specs.declared.path.Reach.TheVariants.{Leaf, Gap}
use Rattle.trie.specs.declared.path.Passed.{Passed}
use Rattle.trie.specs.Descend.{descend_to, passed_at}
use Rattle.trie_remove.specs.Take.{Took, took, take_page}
use Rattle.trie_remove.specs.Prune.{Freed, freed, prune_up}

-- leaf n at level k, which slot s links to, with one page less, the first at link l; where it has none, nodes are freed from it on up
unfoldable pub shorten_leaf : List ℕ → ℕ → (ℕ → Passed) → ℕ → ℕ → ℕ → ℕ → ℕ → Freed
shorten_leaf N cap way n s k l free =
    cond (ltb 0 l) (freed (shorter N cap n l) free) (prune_up (set N (state_at cap n) empty_state) cap way k n s free)

-- both tables and the answer
pub data Gone : Type 0 where
  gone : List ℕ → List ℕ → Option ℕ → Gone

abbrev pub gone_to : List ℕ → Freed → Gone
gone_to P (freed N free) = gone N P (Some free)

abbrev pub remove_taken : List ℕ → ℕ → (ℕ → Passed) → ℕ → ℕ → ℕ → ℕ → Took → Gone
remove_taken N cap way n s k free (took P (Ok l)) = gone_to P (shorten_leaf N cap way n s k l free)
remove_taken N cap way n s k free (took P (Err e)) = gone N P None

-- page p out of leaf n
unfoldable pub remove_at : List ℕ → List ℕ → ℕ → ℕ → ℕ → (ℕ → Passed) → ℕ → ℕ → ℕ → ℕ → ℕ → Gone
remove_at N P cap pcap base way n s k p free = remove_taken N cap way n s k free (take_page P pcap base (first_of (kind_of N cap n)) p)

abbrev pub remove_reached : List ℕ → List ℕ → ℕ → ℕ → ℕ → (ℕ → Passed) → ℕ → ℕ → Option Reach → Gone
remove_reached N P cap pcap base way p free (Some (Leaf at)) = remove_at N P cap pcap base way at.node at.slot at.level p free
remove_reached N P cap pcap base way p free (Some (Gap at)) = gone N P None
remove_reached N P cap pcap base way p free None = gone N P None

-- page p out of the leaf where its bytes Y lead
unfoldable pub remove_page : List ℕ → List ℕ → ℕ → ℕ → ℕ → ℕ → List ℕ → ℕ → ℕ → Gone
remove_page N P cap pcap base root Y p free = remove_reached N P cap pcap base (passed_at N cap root Y) p free (descend_to N cap root Y)
