-- What a search meets: the trie of each block is walked in turn, and the pages of the leaves that the walk gives are met. N is the node
-- table, P the page table, x the query.
use Rattle.std.specs.Prelude.{ℕ, zero, suc, ◌-◌, ◌/◌, List, [], map}
use Rattle.meaning.specs.Forest.{bytes_of_sketch}
use Rattle.layout.specs.declared.Numbers.{Numbers}
use Rattle.layout.specs.Header.{bare}
use Rattle.layout.specs.Pages.{next_at}
use Rattle.walk_steps.specs.Given.{Given, given}
use Rattle.walk.specs.Leaves.{Leaves, leaves, broken}
use Rattle.walk.specs.Walk.{walk_from}
use Rattle.meeting.specs.Meets.{Meets, met, broken as unmet, and_then, with_left, chains_of, chain}

module _ (h : Numbers) (N P x : List ℕ) where
  -- what the walk of block j goes by
  abbrev pub walk_of : ℕ → Given
  walk_of j = given N h.nodes h.b (bytes_of_sketch (bare h) j x)

  -- the pages of leaves of block j, at most as many as the capacity; what is left then are the nodes that may still be read
  abbrev pub pages_of : ℕ → Leaves → Meets
  pages_of j (leaves links n) = with_left n (chains_of P h.pages h.pages (map (chain (next_at h.pages j)) links))
  pages_of j broken = unmet

  module _ (block_radius : ℕ) where
    -- block j, with so many nodes to read; node j is its root
    unfoldable pub meet_block : ℕ → ℕ → Meets
    meet_block j nodes = pages_of j (walk_from (walk_of j) j block_radius nodes)

    -- k blocks from j on
    unfoldable pub meet_from : ℕ → ℕ → ℕ → Meets
    meet_from zero j nodes = met [] nodes
    meet_from (suc k) j nodes = and_then (meet_block j nodes) (λ n. meet_from k (suc j) n)

  -- all blocks. One budget for all of them: every node once, the roots counted first
  unfoldable pub meet_blocks : ℕ → Meets
  meet_blocks radius = meet_from (radius / h.q) h.q 0 (h.nodes - h.q)
