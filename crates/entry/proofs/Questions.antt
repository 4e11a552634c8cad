-- Tests as the code answers them, and a list of questions none of which says no.
use Prim.Native.Nat.{ℕ}
use native.Mathlib.Decide.{ℕ_discrete}
use mathlib.Core.Path.{◌≡◌, refl, sym, ◌∙◌}
use mathlib.Core.Bool.{Bool, true, false, cond, not}
use mathlib.Core.Logic.{◌≢◌, by_cases}
use mathlib.Core.List.{List, [], ◌∷◌, ◌++◌}
use borrow.Author.Tests.{not-true, not-false, ne_eqb}
use lib.Dec.{eqb}
use Rattle.meaning.specs.Refusal.{Question, ask, first_no}

-- ---- a branch on `!r`, where r is the answer to a test
module _ {r t : Bool} (answer : r ≡ t) where
  pub fails : not r ≡ true → t ≡ false
  fails e = sym answer ∙ not-true r e

  pub holds : not r ≡ false → t ≡ true
  holds e = sym answer ∙ not-false r e

-- ---- a list of questions
abbrev pub AllYes : List Question → Type 0
AllYes [] = Unit {0}
AllYes (q ∷ qs) = (q.passed ≡ true) × AllYes qs

-- no question has the number 0
abbrev Numbered : List Question → Type 0
Numbered [] = Unit {0}
Numbered (q ∷ qs) = (q.number ≡ 0 → ⊥) × Numbered qs

-- by the first question's test
step : (t : Bool) (n rest : ℕ) (later : Type 0) → (n ≡ 0 → ⊥) → (rest ≡ 0 → later) → cond t rest n ≡ 0 → (t ≡ true) × later
step true n rest later h f e = (refl, f e)
step false n rest later h f e = absurd (h e)

pub all_yes : (qs : List Question) → Numbered qs → first_no qs ≡ 0 → AllYes qs
unfolding first_no
all_yes [] h e = tt
all_yes (q ∷ qs) h e = step q.passed q.number (first_no qs) (AllYes qs) h.0 (all_yes qs h.1) e

-- questions behind others are asked where none of them says no
pub pass-first : (qs rs : List Question) → Numbered qs → first_no qs ≡ 0 → first_no (qs ++ rs) ≡ first_no rs
unfolding first_no
pass-first [] rs h e = refl
pass-first (q ∷ qs) rs h e =
    let y = step q.passed q.number (first_no qs) (first_no (qs ++ rs) ≡ first_no rs) h.0 (pass-first qs rs h.1) e in
    rw y.0 y.1

pub stop-first : (qs rs : List Question) → first_no qs ≢ 0 → first_no (qs ++ rs) ≡ first_no qs
unfolding first_no
stop-first [] rs h = absurd (h refl)
stop-first (q ∷ qs) rs h = go q.passed (stop-first qs rs) h
  where
    go : (t : Bool) → (first_no qs ≢ 0 → first_no (qs ++ rs) ≡ first_no qs) → cond t (first_no qs) q.number ≢ 0
        → cond t (first_no (qs ++ rs)) q.number ≡ cond t (first_no qs) q.number
    go true ih d = ih d
    go false ih d = refl

pub none_first : (qs rs : List Question) → first_no (qs ++ rs) ≡ 0 → first_no qs ≡ 0
none_first qs rs e = by_cases (ℕ_discrete (first_no qs) 0) (λ z. z) (λ d. absurd (d (sym (stop-first qs rs d) ∙ e)))

pub last-asked : (qs : List Question) → Numbered qs → (n : ℕ) (t : Bool) →
    first_no (qs ++ ask n t ∷ []) ≡ cond (eqb (first_no (qs ++ ask n true ∷ [])) 0) (cond t 0 n) (first_no (qs ++ ask n true ∷ []))
unfolding first_no
last-asked [] h n t = refl
last-asked (q ∷ qs) h n t = go q.passed (last-asked qs h.1 n t)
  where
    rest : Bool → ℕ
    rest u = first_no (qs ++ ask n u ∷ [])

    go : (u : Bool) → rest t ≡ cond (eqb (rest true) 0) (cond t 0 n) (rest true)
        → cond u (rest t) q.number ≡ cond (eqb (cond u (rest true) q.number) 0) (cond t 0 n) (cond u (rest true) q.number)
    go true ih = ih
    go false ih = rw (ne_eqb q.number 0 h.0) refl
