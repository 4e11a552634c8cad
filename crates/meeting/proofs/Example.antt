-- Three pages in two blocks: in block 0 a leaf has pages 0 and 2, in block 1 pages 2 and 1. Page 2 is met twice, and each meeting draws on
-- what may be met. The hypothesis of the laws on chains that lie in the tables holds here.
use mathlib.Core.Path.{◌≡◌, refl}
use mathlib.Core.List.{List, [], ◌∷◌}
use Prim.Native.Nat.{ℕ}
use native.Mathlib.Omega.{arith}
use Rattle.meeting.specs.declared.Chain.{Chain}
use Rattle.meeting.specs.Meets.{met, broken, chain_of, chains_of, chain}
use Rattle.meeting.specs.Held.{HeldChains}

-- page words, signatures, the links of block 0 and of block 1
abbrev pages : List ℕ
pages = 6 ∷ 6 ∷ 6 ∷ 0 ∷ 0 ∷ 0 ∷ 3 ∷ 0 ∷ 0 ∷ 0 ∷ 0 ∷ 2 ∷ []

abbrev chains : List Chain
chains = chain 6 1 ∷ chain 9 3 ∷ []

all-met : chains_of pages 3 5 chains ≡ met (0 ∷ 2 ∷ 2 ∷ 1 ∷ []) 1
unfolding chains_of chain_of
all-met = refl

too_many : chains_of pages 3 3 chains ≡ broken
unfolding chains_of chain_of
too_many = refl

-- page 2 is none of two pages
led-outside : chains_of pages 2 5 chains ≡ broken
unfolding chains_of chain_of
led-outside = refl

held : HeldChains [] pages 3 chains ((0 ∷ 2 ∷ []) ∷ (2 ∷ 1 ∷ []) ∷ [])
held = (
  (refl, (refl, (refl, tt)), (omega arith, (omega arith, tt))),
  ((refl, (refl, (refl, tt)), (omega arith, (omega arith, tt))), tt),
)
