-- What stands at an offset, where it is a command: the offset behind it, and that the first one is I.
use Prim.Native.Nat.{ℕ, ◌+◌, ◌<◌, ◌≤◌}
use mathlib.Core.Path.{◌≡◌, refl, sym, ap, ◌∙◌}
use mathlib.Core.Bool.{Bool, true, false, cond, false≢true}
use mathlib.Core.List.{List, [], ◌∷◌}
use native.Mathlib.Omega.{arith}
use lib.Dec.{ltb, leb, eqb}
use lib.ListN.{length, drop}
use borrow.Author.Tests.{ltb-true, eqb-true}
use Rattle.meaning.specs.Refusal.{first_no}
use Rattle.meaning.specs.Journal.{Command, opens, known, operand_bytes, in_place, form, byte_at, word_at, entries, command, taken, Next, ended, refused, command-to, mark_at, form_at, next}
use Rattle.journal_form.proofs.Questions.{behind-there}

is_command : Next → Bool
is_command ended = false
is_command (refused n) = false
is_command (command-to c to) = true

reaches : Next → ℕ
reaches ended = 0
reaches (refused n) = 0
reaches (command-to c to) = to

command_in : Command → Next → Command
command_in other ended = other
command_in other (refused n) = other
command_in other (command-to c to) = c

-- a command that stands at an offset is well formed
there : (m : ℕ) (bytes : List ℕ) (at : ℕ) (c : Command) (to : ℕ) → next m bytes at ≡ command-to c to
    → (command m (drop at bytes) ≡ c) × ((at + taken m (drop at bytes) ≡ to) × ((at < length bytes) × (form_at m bytes at ≡ 0)))
unfolding next is_command reaches command_in
there m bytes at c to h = go (ltb at (length bytes)) (eqb (form_at m bytes at) 0) refl refl h
  where
    go : (more right : Bool) → ltb at (length bytes) ≡ more → eqb (form_at m bytes at) 0 ≡ right
        → cond more (cond right (command-to (command m (drop at bytes)) (at + taken m (drop at bytes))) (refused (form_at m bytes at))) ended ≡ command-to c to
        → (command m (drop at bytes) ≡ c) × ((at + taken m (drop at bytes) ≡ to) × ((at < length bytes) × (form_at m bytes at ≡ 0)))
    go true true e f p = (ap (command_in c) p, (ap reaches p, (ltb-true at (length bytes) e, eqb-true (form_at m bytes at) 0 f)))
    go true false e f p = absurd (false≢true (ap is_command p))
    go false right e f p = absurd (false≢true (ap is_command p))

takes_one : (m : ℕ) (xs : List ℕ) → 0 < taken m xs
unfolding taken
takes_one m xs = omega arith

-- the offset behind it is further on, and inside the bytes
pub moves-on : (m : ℕ) (bytes : List ℕ) (at : ℕ) (c : Command) (to : ℕ) → next m bytes at ≡ command-to c to → (at < to) × (to ≤ length bytes)
moves-on m bytes at c to h =
    let t = there m bytes at c to h in (
      omega (arith, t.1.0, takes_one m (drop at bytes)),
      omega (arith, t.1.0, behind-there m bytes at t.1.1.0 t.1.1.1),
    )

-- ---- the first command

first-letter : (m : ℕ) (xs : List ℕ) → form m 1 xs ≡ 0 → eqb (byte_at xs 0) 73 ≡ true
unfolding form first_no in_place
first-letter m [] h = absurd (omega arith)
first-letter m (c ∷ xs) h = go (known c) (eqb c 73) (leb (operand_bytes m c) (length xs)) h
  where
    go : (k p o : Bool) → ◌≡◌ {A = ℕ} (cond k (cond p (cond o 0 3) 2) 1) 0 → p ≡ true
    go true true o e = refl
    go true false o e = absurd (omega arith)
    go false p o e = absurd (omega arith)

opens-there : (m : ℕ) (xs : List ℕ) → eqb (byte_at xs 0) 73 ≡ true → command m xs ≡ opens (byte_at xs 1) (byte_at xs 2) (byte_at xs 3) (word_at xs 4)
unfolding entries command
opens-there m xs e = rw e

pub first-opens : (m : ℕ) (bytes : List ℕ) (c : Command) (to : ℕ) → next m bytes 0 ≡ command-to c to
    → c ≡ opens (byte_at bytes 1) (byte_at bytes 2) (byte_at bytes 3) (word_at bytes 4)
unfolding form_at mark_at
first-opens m bytes c to h =
    let t = there m bytes 0 c to h in
    sym t.0 ∙ opens-there m bytes (first-letter m bytes t.1.1.1)
