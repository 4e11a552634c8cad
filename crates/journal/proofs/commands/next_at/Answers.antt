-- `next_at` is what stands at the offset.
use Prim.Native.Nat.{ℕ, ◌+◌, ◌≤◌}
use mathlib.Core.Path.{◌≡◌, sym, ap, ap₂, ◌∙◌}
use mathlib.Core.List.{List}
use lib.ListN.{length, drop}
use Rattle.meaning.specs.Journal.{operand_bytes, form, byte_at, taken, form_at}
use Rattle.refusals.specs.Refusals.{answer_number}
use native.Mathlib.Omega.{arith}
use Rattle.journal.proofs.Steps.{stepped, at-end, at-refusal, at-command, rest}
use Rattle.journal_form.proofs.Questions.{behind-there}
use Rattle.journal.proofs.commands.next_at.Goals as goal
use Rattle.journal.proofs.commands.next_at.Goals.{After-form, After-operand_bytes}

-- the form found is that of the command at the offset
form-is : (c : After-form) → answer_number c.form.result ≡ form_at c.args.m c.args.bytes.now c.args.at
unfolding form_at
form-is c =
    let args = c.args in
    c.form.ensures ∙ ap₂ (form args.m) c.mark_at.ensures (rest args.at args.bytes.now)

-- the bytes that it takes
taken_is : (c : After-operand_bytes) →
    let args = c.args in
    args.at + 1 + c.operand_bytes.result ≡ args.at + taken args.m (drop args.at args.bytes.now)
unfolding taken
taken_is c =
    let args = c.args in
    omega (
      arith,
      c.operand_bytes.ensures
          ∙ ap (operand_bytes args.m) (c.byte_at.ensures ∙ ap (λ (own : List ℕ). byte_at own 0) (rest args.at args.bytes.now)),
    )

-- its form is right
passed : (c : After-operand_bytes) → answer_number c.form.result ≡ 0
passed c = grind arith

-- they are there
there : (c : After-operand_bytes) →
    let args = c.args in
    args.at + taken args.m (drop args.at args.bytes.now) ≤ length args.bytes.now
there c =
    let args = c.args in
    behind-there args.m args.bytes.now args.at c.if-bytes-at.false (sym (form-is (goal.at.overflow_add-behind-2 c).After-form) ∙ passed c)

pub returns-then-bytes-at : goal.returns-then-bytes-at
returns-then-bytes-at c = stepped (at-end c.args.m c.args.bytes.now c.args.at c.if-bytes-at.true)

pub returns-in-Err : goal.returns-in-Err
returns-in-Err c = stepped (at-refusal c.args.m c.args.bytes.now c.args.at c.if-bytes-at.false (sym (ap answer_number c.in-Err.is) ∙ form-is (goal.at.returns-in-Err c).After-form))

pub overflow_add-behind-2 : goal.overflow_add-behind-2
overflow_add-behind-2 c = omega (arith, taken_is c, there c)

pub command_at-requires : goal.command_at-requires
command_at-requires c = there c

pub returns : goal.returns
returns c = stepped (at-command c.args.m c.args.bytes.now c.args.at c.if-bytes-at.false (sym (form-is (goal.at.returns c).After-form) ∙ passed (goal.at.returns c).After-operand_bytes) c.command_at.ensures (taken_is (goal.at.returns c).After-operand_bytes))
