-- A chain in a table T: of cap numbers, number x has its link at base + x. A link is 0 for none, else a number + 1.
use Rattle.std.specs.Prelude.{ℕ, zero, suc, ◌+◌, ◌-◌, cond, List, [], ◌∷◌, ltb, eqb, get_or}

-- the link behind a link
abbrev pub next_link : List ℕ → ℕ → ℕ → ℕ
next_link T base link = get_or T (base + (link - 1)) 0

-- the numbers of a chain; broken where it leaves the table or is too long
pub data Chained : Type 0 where
  whole : List ℕ → Chained
  broken : Chained

abbrev pub ahead : ℕ → Chained → Chained
ahead x (whole xs) = whole (x ∷ xs)
ahead x broken = broken

-- the chain from a link on, of at most f numbers
unfoldable pub chain_from : List ℕ → ℕ → ℕ → ℕ → ℕ → Chained
chain_from T base cap link zero = cond (eqb link 0) (whole []) broken
chain_from T base cap link (suc f) =
    cond (eqb link 0) (whole [])
    (cond (ltb cap link) broken (ahead (link - 1) (chain_from T base cap (next_link T base link) f)))
