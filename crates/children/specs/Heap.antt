-- What a structure claims of the two tables: cells, each a word's address and its value. Every word has at most one owner.
use Rattle.std.specs.Prelude.{ℕ, ◌+◌, ◌≤◌, ◌≡◌, cond, List, eqb, get_or}

infixr 60 ◌⊕◌
-- no cell, a word of the node table, a word of the page table, or the cells of two parts together
pub data Cells : Type 0 where
  nil : Cells
  node : ℕ → ℕ → Cells
  page : ℕ → ℕ → Cells
  ◌⊕◌ : Cells → Cells → Cells

-- 1 where two addresses are one
unfoldable pub hit : ℕ → ℕ → ℕ
hit a b = cond (eqb a b) 1 0

-- how often an address of the node table is claimed
abbrev pub node_claims : Cells → ℕ → ℕ
node_claims nil a = 0
node_claims (node b v) a = hit b a
node_claims (page b v) a = 0
node_claims (xs ⊕ ys) a = node_claims xs a + node_claims ys a

-- how often an address of the page table is claimed
abbrev pub page_claims : Cells → ℕ → ℕ
page_claims nil a = 0
page_claims (node b v) a = 0
page_claims (page b v) a = hit b a
page_claims (xs ⊕ ys) a = page_claims xs a + page_claims ys a

-- the tables have each cell's value at its address
abbrev pub Holds : Cells → List ℕ → List ℕ → Type 0
Holds nil N P = Unit {0}
Holds (node a v) N P = get_or N a 0 ≡ v
Holds (page a v) N P = get_or P a 0 ≡ v
Holds (xs ⊕ ys) N P = Holds xs N P × Holds ys N P

-- the cells lie in the tables, and no word has two owners
pub record Heap (N P : List ℕ) (xs : Cells) : Type 0 where
  pub holds : Holds xs N P
  pub nodes : (a : ℕ) → node_claims xs a ≤ 1
  pub pages : (a : ℕ) → page_claims xs a ≤ 1
