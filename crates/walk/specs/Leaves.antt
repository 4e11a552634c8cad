-- What a walk gives.
use Rattle.std.specs.Prelude.{ℕ, ◌-◌, cond, List, ◌++◌, ltb}

-- the leaves by the links to their first pages, in order, and what is left of the nodes; or a link was not in order, or the budget was spent
pub data Leaves : Type 0 where
  leaves : List ℕ → ℕ → Leaves
  broken : Leaves

-- some leaves first
abbrev pub before : List ℕ → Leaves → Leaves
before links (leaves others n) = leaves (links ++ others) n
before links broken = broken

-- on with what is left of a budget of n when d is drawn from it
abbrev pub spend : ℕ → ℕ → (ℕ → Leaves) → Leaves
spend n d go = cond (ltb n d) broken (go (n - d))
