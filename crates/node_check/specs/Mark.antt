-- Nodes marked once each, in the window of a map.
use Rattle.std.specs.Prelude.{ℕ, ◌-◌, Bool, true, false, cond, List, ltb}
use Rattle.words.specs.Bits.{flag, with_flag}
use Rattle.node_check.specs.declared.mark.Window.{Window}

-- the map, and whether the node was not marked before
pub record Noted : Type 0 where
  pub map : List ℕ
  pub fresh : Bool

abbrev pub noted : List ℕ → Bool → Noted
noted map fresh = record { map = map; fresh = fresh }

unfoldable pub mark_once : Window → List ℕ → ℕ → Noted
mark_once w map x =
    cond (ltb x w.from) (noted map true)
    (cond (ltb (x - w.from) w.size)
    (cond (flag map 0 (x - w.from)) (noted map false) (noted (with_flag map 0 (x - w.from) true) true))
    (noted map true))
