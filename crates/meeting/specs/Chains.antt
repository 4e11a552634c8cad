-- The chains of leaves, from the links to their first pages.
use Rattle.std.specs.Prelude.{ℕ, ◌+◌, ◌*◌, ◌<◌, ◌≡◌, List, length, get_or}
use Rattle.meeting.specs.declared.Chains.{Chains}
use Rattle.meeting.specs.Meets.{chain}

-- where the links of leaf j begin
abbrev pub base_of : ℕ → ℕ → ℕ → ℕ
base_of first step j = first + j * step

-- the chains of the first n of some links
pub record Linked (base : ℕ → ℕ) (links : List ℕ) (n : ℕ) (r : Chains) : Type 0 where
  pub long : length r.each ≡ 16
  pub count : r.n ≡ n
  pub each : (j : ℕ) → j < n → get_or r.each j (chain 0 0) ≡ chain (base j) (get_or links j 0)
