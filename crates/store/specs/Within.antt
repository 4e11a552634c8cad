-- Two tables that differ in no word but those from lo to hi.
use Rattle.std.specs.Prelude.{ℕ, ◌≡◌, List, length, take, drop as skip}
use Rattle.layout.specs.Nodes.{node_words}

pub record Within (lo hi : ℕ) (A B : List ℕ) : Type 0 where
  pub same : length B ≡ length A
  pub front : take lo B ≡ take lo A
  pub back : skip hi B ≡ skip hi A

-- the node table, of cap nodes, and the page table with links from lo to hi
abbrev pub Both : ℕ → ℕ → ℕ → List ℕ → List ℕ → List ℕ → List ℕ → Type 0
Both cap lo hi N P N' P' = Within 0 (node_words cap) N N' × Within lo hi P P'
