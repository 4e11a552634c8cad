-- The refusal number of a change of the register.
use Rattle.std.specs.Prelude.{ℕ, Bool, true, List, [], ◌∷◌}
use Rattle.meaning.specs.Refusal.{ask, first_no}
use Rattle.layout.specs.Header.{tables_first}

-- 5 and 6 of the settings table, then 7
unfoldable pub register_number : List ℕ → Bool → ℕ
register_number ws in_range = first_no (tables_first ws true (ask 7 in_range ∷ []))
