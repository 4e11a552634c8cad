-- `told_by`: from the number to the answer, and back.
use Rattle.std.specs.Prelude.{Ok, Err}
use Prim.Native.Nat.{ℕ}
use native.Mathlib.Omega.{arith}
use mathlib.Core.Path.{◌≡◌, refl, ◌∙◌}
use mathlib.Core.Bool.{Bool, true, false}
use mathlib.Core.Logic.{◌≢◌}
use borrow.Author.Tests.{eqb-true, eqb-false, ne_eqb}
use lib.Dec.{eqb}
use Rattle.layout.specs.declared.Numbers.{Numbers}
use Rattle.layout.specs.Header.{header_of, pick}
use Rattle.promises.specs.Tables.{Tables, given}
use Rattle.entry.specs.Entry.{told_by}

module _ (T : Tables) (n : ℕ) where
  pub tell-refused : (m : ℕ) → n ≡ m → m ≢ 0 → Err m ≡ told_by T n
  tell-refused m e h = rw (e, ne_eqb m 0 h)

  pub tell-shown : (h : Numbers) → header_of (given T) ≡ h → n ≡ 0 → Ok h ≡ told_by T n
  tell-shown h same e = rw (e, same)

  pub told-refused : (m : ℕ) → told_by T n ≡ Err m → (n ≡ m) × (m ≢ 0)
  told-refused m e = go (eqb n 0) refl e
    where
      go : (t : Bool) → eqb n 0 ≡ t → pick t (Ok (header_of (given T))) (Err n) ≡ Err m → (n ≡ m) × (m ≢ 0)
      go true f g = let z : ◌≡◌ {A = ℕ} 0 1 = cc in absurd (omega arith)
      go false f g = let same : n ≡ m = cc in (same, λ z. eqb-false n 0 f (same ∙ z))

  pub told-shown : (h : Numbers) → told_by T n ≡ Ok h → (n ≡ 0) × (header_of (given T) ≡ h)
  told-shown h e = go (eqb n 0) refl e
    where
      go : (t : Bool) → eqb n 0 ≡ t → pick t (Ok (header_of (given T))) (Err n) ≡ Ok h → (n ≡ 0) × (header_of (given T) ≡ h)
      go true f g = (eqb-true n 0 f, cc)
      go false f g = let z : ◌≡◌ {A = ℕ} 0 1 = cc in absurd (omega arith)
