-- The rights register as document 01's ledger keeps it: pairs that stand or do not; and the calls that change it.
use Rattle.std.specs.Prelude.{ℕ, Bool, cond, ◌&&◌, not, List, [], ◌∷◌, ltb, eqb}
use Rattle.meaning.specs.Lists.{any, keep, upto}

-- reader and group, or group and class
pub record Pair : Type 0 where
  pub from : ℕ
  pub to : ℕ

abbrev pub pair : ℕ → ℕ → Pair
pair a b = record { from = a; to = b }

unfoldable pub same_pair : Pair → Pair → Bool
same_pair p q = eqb p.from q.from && eqb p.to q.to

unfoldable pub stands : Pair → List Pair → Bool
stands p ps = any (same_pair p) ps

-- a pair stands once, however often it is written
unfoldable pub write : Pair → List Pair → List Pair
write p ps = cond (stands p ps) ps (p ∷ ps)

-- striking an absent pair changes nothing
unfoldable pub strike : Pair → List Pair → List Pair
strike p ps = keep (λ r. not (same_pair p r)) ps

pub record Register : Type 0 where
  -- reader and group
  pub members : List Pair
  -- group and class
  pub grants : List Pair

abbrev pub no_rights : Register
no_rights = record { members = []; grants = [] }

-- a class is open to a reader if some group stands in a pair with each; the groups are 0 to 31
unfoldable pub open_to : Register → ℕ → ℕ → Bool
open_to R reader class = any (λ g. stands (pair reader g) R.members && stands (pair g class) R.grants) (upto 32)

-- a change of the register
pub data Change : Type 0 where
  -- reader, group
  join leave : ℕ → ℕ → Change
  -- group, class
  grant revoke : ℕ → ℕ → Change

-- are its numbers in range? (question 7)
abbrev pub change_in_range : Change → Bool
change_in_range (join r g) = ltb r 256 && ltb g 32
change_in_range (leave r g) = ltb r 256 && ltb g 32
change_in_range (grant g c) = ltb g 32 && ltb c 64
change_in_range (revoke g c) = ltb g 32 && ltb c 64

-- the register after it
unfoldable pub changed : Change → Register → Register
changed (join r g) R = record { members = write (pair r g) R.members; grants = R.grants }
changed (leave r g) R = record { members = strike (pair r g) R.members; grants = R.grants }
changed (grant g c) R = record { members = R.members; grants = write (pair g c) R.grants }
changed (revoke g c) R = record { members = R.members; grants = strike (pair g c) R.grants }
