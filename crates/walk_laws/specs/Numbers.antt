-- Node tables that differ in nothing but the numbers of pages in leaves' states.
use Rattle.std.specs.Prelude.{ℕ, ◌≤◌, ◌<◌, ◌≡◌, List, length, get_or}
use Rattle.layout.specs.Nodes.{heads_at}
use Rattle.layout.specs.States.{kind_of}

-- M is N, of cap nodes, but for these: every chain word and head is the same, and each state stands for the same kind with the same first page
pub record Renumbered (cap : ℕ) (N M : List ℕ) : Type 0 where
  pub long : length M ≡ length N
  pub chains : (a : ℕ) → a < cap → get_or M a 0 ≡ get_or N a 0
  pub heads : (a : ℕ) → heads_at cap ≤ a → get_or M a 0 ≡ get_or N a 0
  pub kinds : (x : ℕ) → kind_of M cap x ≡ kind_of N cap x
