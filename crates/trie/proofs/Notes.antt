-- The nodes passed on the way down: one step of `passed_at`, and a step noted in the arrays of a path.
use Rattle.std.specs.Prelude.{Option, Some, None}
use Prim.Native.Nat.{ℕ, zero, suc, ◌+◌, ◌<◌}
use native.Mathlib.Decide.{ℕ_discrete}
use native.Mathlib.Numerals.{add-one}
use native.Mathlib.Omega.{arith}
use mathlib.Core.Path.{◌≡◌, refl, ap, ◌∙◌, sym}
use mathlib.Core.Logic.{by_cases}
use mathlib.Core.List.{List}
use lib.ListN.{length, get_or, set}
use lib.Seq.{get_or-set_same, get_or-set_other}
use Rattle.layout.specs.Nodes.{node_words}
use Rattle.trie.specs.declared.path.Step.{Step}
use Rattle.trie.specs.declared.path.Step.TheVariants.{Child}
use Rattle.trie.specs.declared.path.Step.TheVariants as step
use Rattle.trie.specs.declared.path.Passed.{Passed}
use Rattle.trie.specs.Descend.{step_to, passed, further, passed_at, noted, Noted, StepInside}
use Rattle.trie.proofs.Inside.{step-inside}

module _ (N : List ℕ) (cap root : ℕ) (Y : List ℕ) where
  pub passed_start : passed_at N cap root Y 0 ≡ passed root 0
  unfolding passed_at
  passed_start = refl

  -- on to a child that was found
  pub passed_on : (k n s : ℕ) → passed_at N cap root Y k ≡ passed n s → (r : Option Step) → r ≡ step_to N cap Y n k → (c s' : ℕ) → r ≡ Some (Child s' c) →
      passed_at N cap root Y (k + 1) ≡ passed c s'
  unfolding passed_at
  passed_on k n s e r h c s' q = rw add-one (ap (λ (x : Passed). further x (step_to N cap Y x.node k)) e ∙ ap (further (passed n s)) (sym h ∙ q))

  -- all are inside the table
  pub passed-inside : root < cap → ((k : ℕ) → get_or Y k 0 < 256) → (k : ℕ) → ((passed_at N cap root Y k).node < cap) × ((passed_at N cap root Y k).slot < node_words cap)
  unfolding passed_at
  passed-inside l o zero = (l, omega arith)
  passed-inside l o (suc k) =
      let x : Passed = passed_at N cap root Y k in
      let i = passed-inside l o k in
      go x i (step_to N cap Y x.node k) (step-inside N cap Y o x.node k i.0)
    where
      go : (x : Passed) → (x.node < cap) × (x.slot < node_words cap) → (r : Option Step) → StepInside cap (length Y) k r → ((further x r).node < cap) × ((further x r).slot < node_words cap)
      go x i (Some (Child s c)) h = (h.0, h.1)
      go x i (Some step.Leaf) h = i
      go x i (Some (step.Gap s)) h = i
      go x i None h = i

-- the next node noted
pub note-on : (path : List Passed) (way : ℕ → Passed) (k n s : ℕ) → Noted (noted path) way k → way k ≡ passed n s → k < length path →
    Noted (noted (set path k (passed n s))) way (k + 1)
note-on path way k n s h e l j m =
    by_cases (ℕ_discrete j k)
    (λ q. rw q (get_or-set_same path k (passed n s) (passed 0 0) l ∙ sym e))
    (λ d. get_or-set_other path k j (passed n s) (passed 0 0) d ∙ h j (omega arith))
