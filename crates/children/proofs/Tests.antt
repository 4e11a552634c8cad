-- A chain of tests that gives a good answer: which way each test went.
use mathlib.Core.Path.{◌≡◌, refl}
use mathlib.Core.Bool.{Bool, true, false, cond}

module _ {A : Type 0} (bad good : A) (apart : bad ≡ good → ⊥) where
  -- bad where the test holds
  pub refused : (q : Bool) (x : A) → cond q bad x ≡ good → (q ≡ false) × (x ≡ good)
  refused true x h = absurd (apart h)
  refused false x h = (refl, h)

  -- bad where it fails
  pub passed : (q : Bool) (x : A) → cond q x bad ≡ good → (q ≡ true) × (x ≡ good)
  passed true x h = (refl, h)
  passed false x h = absurd (apart h)
