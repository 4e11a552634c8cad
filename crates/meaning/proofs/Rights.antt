-- Rights by computation: what a leave and a revoke close, and what a second group keeps open.
use mathlib.Core.Path.{◌≡◌, refl}
use mathlib.Core.Bool.{true, false}
use mathlib.Core.List.{[], ◌∷◌}
use Rattle.meaning.specs.Lists.{any, keep, from, upto}
use Rattle.meaning.specs.Rights.{Register, pair, same_pair, stands, strike, open_to, leave, revoke, changed}

-- reader 5 has class 3 by group 1; and by group 2 too
abbrev one : Register
one = record { members = pair 5 1 ∷ []; grants = pair 1 3 ∷ [] }

abbrev two : Register
two = record { members = pair 5 2 ∷ pair 5 1 ∷ []; grants = pair 2 3 ∷ pair 1 3 ∷ [] }

pub record Closing : Type 0 where
  pub before : open_to one 5 3 ≡ true
  pub left : open_to (changed (leave 5 1) one) 5 3 ≡ false
  pub revoked : open_to (changed (revoke 1 3) one) 5 3 ≡ false
  pub left_one : open_to (changed (leave 5 1) two) 5 3 ≡ true
  pub revoked-one : open_to (changed (revoke 1 3) two) 5 3 ≡ true
  -- striking an absent pair changes nothing
  pub absent : changed (leave 5 3) two ≡ two

pub closing : Closing
unfolding any keep from upto same_pair stands strike open_to changed
closing = record {
  before = refl;
  left = refl;
  revoked = refl;
  left_one = refl;
  revoked-one = refl;
  absent = refl;
}
