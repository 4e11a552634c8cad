-- The leaf in the trie of each block that a query's own bytes lead to. N is the node table, x the query.
use Rattle.std.specs.Prelude.{ℕ, zero, suc, ◌+◌, ◌-◌, ◌*◌, ◌<◌, ◌≡◌, List, length, get_or, Some}
use Rattle.meaning.specs.Sketch.{packed_length, block_length}
use Rattle.meaning.specs.Forest.{bytes_of_sketch}
use Rattle.layout.specs.declared.Numbers.{Numbers}
use Rattle.layout.specs.Header.{bare}
use Rattle.descent.specs.declared.Cursor.{Cursor}
use Rattle.descent.specs.Cursor.{ended, arrive, descended, drawn, left_of, leaf_of}
use Rattle.block_leaves.specs.declared.Ends.{Ends}

-- how many packed bytes block j has
abbrev pub block_size : Numbers → ℕ → ℕ
block_size h j = packed_length h.b (block_length h.m h.q j)

-- the bytes of block j stand from 64 × j on
pub record Packed (h : Numbers) (x bytes : List ℕ) : Type 0 where
  pub long : length bytes ≡ 512
  pub each : (j k : ℕ) → j < h.q → k < length (bytes_of_sketch (bare h) j x) → get_or bytes (64 * j + k) 0 ≡ get_or (bytes_of_sketch (bare h) j x) k 0

-- each block's descent at its root
pub record Started (h : Numbers) (N bytes : List ℕ) (cs : List Cursor) : Type 0 where
  pub long : length cs ≡ 16
  pub each : (j : ℕ) → j < h.q → get_or cs j (ended 0) ≡ arrive N h.nodes bytes j (64 * j) (64 * j + (block_size h j - 1))

-- the leaf of block j, by the link of its first page; node j is the root
unfoldable pub leaf_in : Numbers → List ℕ → List ℕ → ℕ → ℕ
leaf_in h N x j =
    let ys : List ℕ = bytes_of_sketch (bare h) j x in
    leaf_of (descended N h.nodes ys h.nodes (arrive N h.nodes ys j 0 (length ys - 1)))

-- the nodes that its descent reads behind the root
unfoldable pub drawn_in : Numbers → List ℕ → List ℕ → ℕ → ℕ
drawn_in h N x j =
    let ys : List ℕ = bytes_of_sketch (bare h) j x in
    drawn N h.nodes ys h.nodes (arrive N h.nodes ys j 0 (length ys - 1))

-- those of k blocks from j on
unfoldable pub drawn_from : Numbers → List ℕ → List ℕ → ℕ → ℕ → ℕ
drawn_from h N x zero j = 0
drawn_from h N x (suc k) j = drawn_in h N x j + drawn_from h N x k (suc j)

-- the leaves of all blocks, within a budget of nodes
pub record Leaves (h : Numbers) (N x : List ℕ) (budget : ℕ) (r : Ends) : Type 0 where
  pub left : r.left ≡ left_of budget (drawn_from h N x h.q 0)
  pub each : (k : ℕ) → r.left ≡ Some k → (j : ℕ) → j < h.q → get_or r.firsts j 0 ≡ leaf_in h N x j
