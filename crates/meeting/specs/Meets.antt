-- The pages of chains, in order, each linked to the next.
use Rattle.std.specs.Prelude.{ℕ, zero, suc, ◌+◌, ◌-◌, cond, List, [], ◌∷◌, ◌++◌, ltb, eqb, get_or}
use Rattle.meeting.specs.declared.Chain.{Chain}

-- the pages met, and how many more may be met; or more were met than may be, or a link led outside
pub data Meets : Type 0 where
  met : List ℕ → ℕ → Meets
  broken : Meets

-- pages met before others
abbrev pub after : List ℕ → Meets → Meets
after ps (met qs k) = met (ps ++ qs) k
after ps broken = broken

-- on with what may still be met
abbrev pub and_then : Meets → (ℕ → Meets) → Meets
and_then (met ps k) go = after ps (go k)
and_then broken go = broken

-- with another number left
abbrev pub with_left : ℕ → Meets → Meets
with_left n (met ps k) = met ps n
with_left n broken = broken

module _ (pages : List ℕ) (cap : ℕ) where
  -- the pages from a link on, at most f of them: page p's link to the next stands at base + p, and 0 ends the chain
  unfoldable pub chain_of : ℕ → ℕ → ℕ → Meets
  chain_of base link zero = cond (eqb link 0) (met [] 0) broken
  chain_of base link (suc f) =
      cond (eqb link 0) (met [] (suc f))
      (cond (ltb cap link) broken (after ((link - 1) ∷ []) (chain_of base (get_or pages (base + (link - 1)) 0) f)))

  -- of several chains, one after the other, at most `total` of them together
  unfoldable pub chains_of : ℕ → List Chain → Meets
  chains_of total [] = met [] total
  chains_of total (c ∷ cs) = and_then (chain_of c.base c.link total) (λ k. chains_of k cs)

-- a chain by where its links begin and the link to its first page
abbrev pub chain : ℕ → ℕ → Chain
chain base link = record { base = base; link = link }
