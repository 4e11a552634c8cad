-- The questions put to a call, in their order: the first "no" gives its number (document 01, "Questions put to a call").
use Rattle.std.specs.Prelude.{ℕ, Bool, cond, List, [], ◌∷◌}

-- a question: its test and its number
pub record Question : Type 0 where
  pub passed : Bool
  pub number : ℕ

abbrev pub ask : ℕ → Bool → Question
ask n t = record { passed = t; number = n }

-- the number of the first "no"; 0 where there is none, and the call is carried out
unfoldable pub first_no : List Question → ℕ
first_no [] = 0
first_no (q ∷ qs) = cond q.passed (first_no qs) q.number
