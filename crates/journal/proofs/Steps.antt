-- A step is what the paper has at that offset.
use Prim.Native.Nat.{ℕ, ◌+◌, ◌-◌, ◌<◌, ◌≤◌}
use mathlib.Core.Path.{◌≡◌, refl, sym, ap, ◌∙◌}
use mathlib.Core.Bool.{Bool, true, false, cond, false≢true}
use mathlib.Core.List.{List}
use native.Mathlib.Omega.{arith}
use lib.Dec.{ltb, eqb}
use lib.ListN.{length, take, drop, length-drop}
use lib.Seq.{drop-drop, take_all}
use borrow.Author.Tests.{lt-ltb, le-ltb, eq-eqb, ne_eqb, ltb-true, eqb-true, eqb-false}
use Rattle.meaning.specs.Rights.{join, leave, grant, revoke}
use Rattle.meaning.specs.Journal.{opens, adds, drops, changes, searches, byte_at, word_at, entries, operand_bytes, taken, form_at, mark_at, next, command, ended, refused, command-to}
use Rattle.journal.specs.Steps.{meant, told, symbols_end, change_of, command_of, command_at, refusal_of, step_at, Stepped, reached_by}
use Rattle.refusals.specs.declared.Refusal.{Refusal}
use Rattle.refusals.specs.declared.Refusal.TheVariants.{UnknownCommand, MisplacedCommand, MissingOperands, BadSettings, ShortTable, NoOpening, OutOfRange, NoSuchPage, PageState, BadLength, BadSymbol, NoRoom, ShortOutput, Unsound, Blank}
use Rattle.refusals.specs.Refusals.{number_of}
use Rattle.refusals.proofs.Refusals.{not_zero}
use Rattle.journal_form.proofs.Questions.{three, behind-there}
use Rattle.rights.specs.Changes.{change_meant}
use Rattle.rights.specs.declared.Change.TheVariants.{Join, Leave, Grant, Revoke}
use Rattle.journal.specs.declared.commands.Command.{Command}
use Rattle.journal.specs.declared.commands.Command.TheVariants.{Open, Add, Drop, Register, Search}
use Rattle.journal.specs.declared.commands.Step.{Step}
use Rattle.journal.specs.declared.commands.Step.TheVariants.{Taken, Refused, End}

symbols-at : (m at k : ℕ) (bytes : List ℕ) → take m (drop (at + k) bytes) ≡ take m (drop k (drop at bytes))
symbols-at m at k bytes = ap (take m) (sym (drop-drop k at bytes))

pub command-meant : (m : ℕ) (bytes : List ℕ) (at : ℕ) → meant m bytes (command_at bytes at) ≡ command m (drop at bytes)
unfolding command_at command_of change_of change_meant meant entries command
command-meant m bytes at = go (is 73) (is 65) (is 68) (is 83) (is 74) (is 76) (is 71)
  where
    own : List ℕ
    own = drop at bytes

    is : ℕ → Bool
    is k = eqb (byte_at (drop at bytes) 0) k

    go : (i a d s j l g : Bool)
        → meant m bytes (
        cond i (Open (byte_at own 1) (byte_at own 2) (byte_at own 3) (word_at own 4)) (
        cond a (Add (word_at own 1) (byte_at own 3) (at + 4)) (
        cond d (Drop (word_at own 1)) (
        cond s (Search (byte_at own 1) (byte_at own 2) (at + 3)) (
        Register (
        cond j (Join (byte_at own 1) (byte_at own 2)) (
        cond l (Leave (byte_at own 1) (byte_at own 2)) (
        cond g (Grant (byte_at own 1) (byte_at own 2)) (Revoke (byte_at own 1) (byte_at own 2))))))))))
        ≡ cond i (opens (byte_at own 1) (byte_at own 2) (byte_at own 3) (word_at own 4)) (
        cond a (adds (word_at own 1) (byte_at own 3) (take m (drop 4 own))) (
        cond d (drops (word_at own 1)) (
        cond s (searches (byte_at own 1) (byte_at own 2) (take m (drop 3 own))) (
        cond j (changes (join (byte_at own 1) (byte_at own 2))) (
        cond l (changes (leave (byte_at own 1) (byte_at own 2))) (
        cond g (changes (grant (byte_at own 1) (byte_at own 2))) (changes (revoke (byte_at own 1) (byte_at own 2)))))))))
    go true a d s j l g = refl
    go false true d s j l g = ap (adds (word_at own 1) (byte_at own 3)) (symbols-at m at 4 bytes)
    go false false true s j l g = refl
    go false false false true j l g = ap (searches (byte_at own 1) (byte_at own 2)) (symbols-at m at 3 bytes)
    go false false false false true l g = refl
    go false false false false false true g = refl
    go false false false false false false true = refl
    go false false false false false false false = refl

-- a refusal by 1 to 3 is the one of its number, and has it
that-refusal : (r : Refusal) (n : ℕ) → number_of r ≡ n → n ≤ 3 → r ≡ refusal_of n
that-refusal UnknownCommand n e h = rw (← e) refl
that-refusal MisplacedCommand n e h = rw (← e) refl
that-refusal MissingOperands n e h = rw (← e) refl
that-refusal BadSettings n e h = absurd (omega (arith, e, h))
that-refusal ShortTable n e h = absurd (omega (arith, e, h))
that-refusal NoOpening n e h = absurd (omega (arith, e, h))
that-refusal OutOfRange n e h = absurd (omega (arith, e, h))
that-refusal NoSuchPage n e h = absurd (omega (arith, e, h))
that-refusal PageState n e h = absurd (omega (arith, e, h))
that-refusal BadLength n e h = absurd (omega (arith, e, h))
that-refusal BadSymbol n e h = absurd (omega (arith, e, h))
that-refusal NoRoom n e h = absurd (omega (arith, e, h))
that-refusal (ShortOutput k) n e h = absurd (omega (arith, e, h))
that-refusal Unsound n e h = absurd (omega (arith, e, h))
that-refusal Blank n e h = absurd (omega (arith, e, h))

three-at : (m : ℕ) (bytes : List ℕ) (at : ℕ) → form_at m bytes at ≤ 3
unfolding form_at
three-at m bytes at = three m (mark_at at) (drop at bytes)

its-number : (n : ℕ) → n ≤ 3 → (n ≡ 0 → ⊥) → number_of (refusal_of n) ≡ n
its-number n h z = go (eqb n 1) (eqb n 2) refl refl
  where
    go : (one two : Bool) → eqb n 1 ≡ one → eqb n 2 ≡ two → number_of (cond one UnknownCommand (cond two MisplacedCommand MissingOperands)) ≡ n
    go true two e f = sym (eqb-true n 1 e)
    go false true e f = sym (eqb-true n 2 f)
    go false false e f = omega (arith, h, z, eqb-false n 1 e, eqb-false n 2 f)

pub step-told : (m : ℕ) (bytes : List ℕ) (at : ℕ) → told m bytes (step_at m bytes at) ≡ next m bytes at
unfolding step_at told next
step-told m bytes at = go (ltb at (length bytes)) (eqb (form_at m bytes at) 0) refl
  where
    go : (more right : Bool) → eqb (form_at m bytes at) 0 ≡ right
        → told m bytes (cond more (cond right (Taken (command_at bytes at) (at + taken m (drop at bytes))) (Refused (refusal_of (form_at m bytes at)))) End)
        ≡ cond more (cond right (command-to (command m (drop at bytes)) (at + taken m (drop at bytes))) (refused (form_at m bytes at))) ended
    go true true e = ap (λ c. command-to c (at + taken m (drop at bytes))) (command-meant m bytes at)
    go true false e = ap refused (its-number (form_at m bytes at) (three-at m bytes at) (eqb-false (form_at m bytes at) 0 e))
    go false right e = refl

pub stepped : {m : ℕ} {bytes : List ℕ} {at : ℕ} {s : Step Refusal} → s ≡ step_at m bytes at → Stepped m bytes at s
stepped {m} {bytes} {at} e = record { told-right = ap (told m bytes) e ∙ step-told m bytes at; in_place = e }

pub at-end : (m : ℕ) (bytes : List ℕ) (at : ℕ) → length bytes ≤ at → End ≡ step_at m bytes at
unfolding step_at
at-end m bytes at h = rw (le-ltb at (length bytes) h)

pub at-refusal : (m : ℕ) (bytes : List ℕ) (at : ℕ) {r : Refusal} → at < length bytes → number_of r ≡ form_at m bytes at → Refused r ≡ step_at m bytes at
unfolding step_at
at-refusal m bytes at {r} h e =
    rw (lt-ltb at (length bytes) h, ne_eqb (form_at m bytes at) 0 (λ f. not_zero r (e ∙ f)))
    (ap Refused (that-refusal r (form_at m bytes at) e (three-at m bytes at)))

pub at-command : (m : ℕ) (bytes : List ℕ) (at : ℕ) {c : Command} {to : ℕ} → at < length bytes → form_at m bytes at ≡ 0
    → c ≡ command_at bytes at → to ≡ at + taken m (drop at bytes) → Taken c to ≡ step_at m bytes at
unfolding step_at
at-command m bytes at h f e e' = rw (lt-ltb at (length bytes) h, eq-eqb (form_at m bytes at) 0 f, e, e')

-- ---- the part that begins at an offset

pub rest : (at : ℕ) (bytes : List ℕ) → take (length bytes - at) (drop at bytes) ≡ drop at bytes
rest at bytes = take_all (length bytes - at) (drop at bytes) (omega (arith, length-drop at bytes))

-- ---- a command that was taken

is_taken : Step Refusal → Bool
is_taken (Taken c to) = true
is_taken (Refused r) = false
is_taken End = false

command_in : Command → Step Refusal → Command
command_in other (Taken c to) = c
command_in other (Refused r) = other
command_in other End = other

-- it is well formed, and the offset behind it lies inside
pub taken-there : (m : ℕ) (bytes : List ℕ) (at : ℕ) (c : Command) (to : ℕ) → Stepped m bytes at (Taken c to)
    → (c ≡ command_at bytes at) × ((to ≡ at + taken m (drop at bytes)) × (to ≤ length bytes))
unfolding step_at reached_by is_taken command_in
taken-there m bytes at c to st = go (ltb at (length bytes)) (eqb (form_at m bytes at) 0) refl refl st.in_place
  where
    go : (more right : Bool) → ltb at (length bytes) ≡ more → eqb (form_at m bytes at) 0 ≡ right
        → Taken c to ≡ cond more (cond right (Taken (command_at bytes at) (at + taken m (drop at bytes))) (Refused (refusal_of (form_at m bytes at)))) End
        → (c ≡ command_at bytes at) × ((to ≡ at + taken m (drop at bytes)) × (to ≤ length bytes))
    go true true e f p =
        let reached = ap (λ (s : Step Refusal). reached_by s 0) p in (
          ap (command_in c) p,
          (reached, omega (arith, reached, behind-there m bytes at (ltb-true at (length bytes) e) (eqb-true (form_at m bytes at) 0 f))),
        )
    go true false e f p = absurd (false≢true (sym (ap is_taken p)))
    go false right e f p = absurd (false≢true (sym (ap is_taken p)))

symbols-inside : (m : ℕ) (own : List ℕ) (at : ℕ) → symbols_end m (command_of own at) ≤ at + taken m own
unfolding command_of symbols_end taken entries operand_bytes
symbols-inside m own at = go (is 73) (is 65) (is 68) (is 83) (is 74) (is 76) (is 71)
  where
    is : ℕ → Bool
    is k = eqb (byte_at own 0) k

    go : (i a d s j l g : Bool)
        → symbols_end m (
        cond i (Open (byte_at own 1) (byte_at own 2) (byte_at own 3) (word_at own 4)) (
        cond a (Add (word_at own 1) (byte_at own 3) (at + 4)) (
        cond d (Drop (word_at own 1)) (
        cond s (Search (byte_at own 1) (byte_at own 2) (at + 3)) (
        Register (change_of (byte_at own 0) (byte_at own 1) (byte_at own 2)))))))
        ≤ at + (1 + cond i 5 (cond a (3 + m) (cond d 2 (cond s (2 + m) (cond j 2 (cond l 2 (cond g 2 2)))))))
    go true a d s j l g = omega arith
    go false true d s j l g = omega arith
    go false false true s j l g = omega arith
    go false false false true j l g = omega arith
    go false false false false j l g = omega arith

-- its symbols lie inside too
pub symbols-there : (m : ℕ) (bytes : List ℕ) (at : ℕ) (c : Command) (to : ℕ) → Stepped m bytes at (Taken c to) → symbols_end m c ≤ length bytes
unfolding command_at
symbols-there m bytes at c to st =
    let there = taken-there m bytes at c to st in
    omega (arith, ap (symbols_end m) there.0, there.1.0, there.1.1, symbols-inside m (drop at bytes) at)
