-- The number of the first "no" of a list of questions.
use Prim.Native.Nat.{ℕ}
use mathlib.Core.Path.{◌≡◌}
use mathlib.Core.Bool.{Bool, true, false, cond}
use mathlib.Core.List.{List, [], ◌∷◌, ◌++◌}
use Rattle.meaning.specs.Lists.{all}
use Rattle.meaning.specs.Refusal.{Question, first_no}
use Rattle.meaning.proofs.Lists.{and_first, and_second}

-- it is 0 or that of a question that is asked
pub number_in : (P : ℕ → Bool) (qs : List Question) → P 0 ≡ true → all (λ q. P q.number) qs ≡ true → P (first_no qs) ≡ true
unfolding all first_no
number_in P [] z h = z
number_in P (q ∷ qs) z h = go q.passed (number_in P qs z (and_second (P q.number) _ h))
  where
    go : (t : Bool) → P (first_no qs) ≡ true → P (cond t (first_no qs) q.number) ≡ true
    go true r = r
    go false r = and_first (P q.number) _ h

-- where the first ones are passed, it is that of the others
pub number_behind : (P : ℕ → Bool) (qs rs : List Question) → P 0 ≡ true → first_no qs ≡ 0 → P (first_no rs) ≡ true → P (first_no (qs ++ rs)) ≡ true
unfolding first_no
number_behind P [] rs z e h = h
number_behind P (q ∷ qs) rs z e h = go q.passed (λ d. number_behind P qs rs z d h) e
  where
    go : (t : Bool) → (first_no qs ≡ 0 → P (first_no (qs ++ rs)) ≡ true) → cond t (first_no qs) q.number ≡ 0
        → P (cond t (first_no (qs ++ rs)) q.number) ≡ true
    go true ih d = ih d
    go false ih d = rw d z
