-- The pages of leaves, a list for each.
use Rattle.std.specs.Prelude.{ℕ, List, [], ◌∷◌}
use Rattle.children.specs.Heap.{Holds}
use Rattle.children.specs.Phys.{page_cells, Below}

-- they lie in the tables, with their links to the next pages from `base` on, and are below the page capacity
abbrev pub Held : ℕ → ℕ → List (List ℕ) → List ℕ → List ℕ → Type 0
Held base pcap [] N P = Unit {0}
Held base pcap (ps ∷ pss) N P = Holds (page_cells base ps) N P × Below pcap ps × Held base pcap pss N P
