-- A change of the register: what `admit` answers, and one law for each way out, over the change.
use Rattle.std.specs.Prelude.{Ok, Err}
use Prim.Native.Nat.{ℕ, ◌≤◌}
use native.Mathlib.Omega.{arith}
use mathlib.Core.Path.{◌≡◌, refl, sym, ◌∙◌}
use mathlib.Core.Bool.{Bool, true, false, cond}
use mathlib.Core.List.{List, [], ◌∷◌}
use borrow.Author.Tests.{leb-true, eqb-true, ne_eqb}
use lib.Dec.{eqb}
use lib.ListN.{length}
use Rattle.meaning.specs.Refusal.{ask, first_no}
use Rattle.meaning.specs.Rights.{Change, join, leave, grant, revoke, change_in_range}
use Rattle.meaning.specs.Ledger.{change}
use Rattle.meaning.specs.Questions.{asked}
use Rattle.layout.specs.declared.Numbers.{Numbers}
use Rattle.layout.specs.Settings.{settings_length}
use Rattle.layout.specs.Header.{opening_of, tables_first}
use Rattle.layout.proofs.Openings.{shown-number, refused-number}
use Rattle.rights.specs.Entries.{registered, all_current}
use Rattle.rights.proofs.Kept.{stays-current}
use Rattle.promises.specs.Tables.{settings_alone}
use Rattle.promises.specs.Answers.{number, entered, shown56, long_settings, long_for}
use Rattle.promises.specs.Calls.{RightsPromise}
use Rattle.register.specs.Register.{register_number}
use Rattle.entry.proofs.Questions.{all_yes}

-- ---- 5 and 6, by the answer of `opening`
module _ (ws : List ℕ) (t : Bool) where
  pub register-shown : (h : Numbers) → opening_of ws ≡ Ok h → register_number ws t ≡ cond t 0 7
  unfolding register_number first_no
  register-shown h e = shown-number ws true (ask 7 t ∷ []) h e

  pub register-refused : (n : ℕ) → opening_of ws ≡ Err n → register_number ws t ≡ n
  unfolding register_number
  register-refused n e = refused-number ws true (ask 7 t ∷ []) n e

-- ---- a change asks 5, 6 and whether its numbers are in range
asks : (c : Change) (ws : List ℕ) → number (settings_alone ws) [] (change c) ≡ register_number ws (change_in_range c)
unfolding number entered shown56 long_settings long_for asked register_number
asks (join a b) ws = refl
asks (leave a b) ws = refl
asks (grant a b) ws = refl
asks (revoke a b) ws = refl

-- ---- the ways out, n the number that `admit` answers
module _ (c : Change) (ws : List ℕ) (n : ℕ) (answer : n ≡ register_number ws (change_in_range c)) where
  pub refused : (n ≡ 0 → ⊥) → RightsPromise c ws n ws
  refused h =
      let same : number (settings_alone ws) [] (change c) ≡ n = asks c ws ∙ sym answer in
      record { answers = sym same; settings-left = rw (same, ne_eqb n 0 h) }

  pub passed : n ≡ 0 → (settings_length ≤ length ws) × (change_in_range c ≡ true)
  unfolding register_number
  passed z =
      let yes = all_yes (tables_first ws true (ask 7 (change_in_range c) ∷ [])) (omega arith) (sym answer ∙ z) in
      (leb-true settings_length (length ws) yes.0, yes.1.1.0)

  pub done : n ≡ 0 → (after : List ℕ) → after ≡ registered c ws → RightsPromise c ws 0 after
  done z after e =
      let same : number (settings_alone ws) [] (change c) ≡ 0 = asks c ws ∙ sym answer ∙ z in
      record { answers = sym same; settings-left = rw same e }

-- ---- accepted or refused, on any tables: all entries are current afterwards if they were before
pub change-current : (c : Change) (ws : List ℕ) (n : ℕ) (after : List ℕ) → RightsPromise c ws n after → all_current ws ≡ true → all_current after ≡ true
change-current c ws n after p current = rw p.settings-left (go (eqb (number (settings_alone ws) [] (change c)) 0) refl)
  where
    go : (t : Bool) → eqb (number (settings_alone ws) [] (change c)) 0 ≡ t → all_current (cond t (registered c ws) ws) ≡ true
    go true e =
        unfold number entered shown56 long_settings long_for asked in
        let yes = all_yes _ (omega arith) (eqb-true (number (settings_alone ws) [] (change c)) 0 e) in
        stays-current ws (leb-true settings_length (length ws) yes.0) current c yes.1.1.0
    go false e = current
