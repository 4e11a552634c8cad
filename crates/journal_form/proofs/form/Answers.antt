-- `form` is the paper's form: each return is the first test that fails.
use native.Mathlib.Omega.{arith}
use Rattle.journal_form.proofs.Questions.{unknown, misplaced, cut, whole}
use Rattle.journal_form.proofs.form.Goals as goal

pub returns-then-not-is_known : goal.returns-then-not-is_known
returns-then-not-is_known c = unknown c.args.m c.args.mark c.in-Some.c c.in-Some.operands.now (grind arith) (grind arith)

pub returns-then-not-is_in_place : goal.returns-then-not-is_in_place
returns-then-not-is_in_place c = misplaced c.args.m c.args.mark c.in-Some.c c.in-Some.operands.now (grind arith) (grind arith) (grind arith)

pub returns-then-operands-operand_bytes : goal.returns-then-operands-operand_bytes
returns-then-operands-operand_bytes c = cut c.args.m c.args.mark c.in-Some.c c.in-Some.operands.now (grind arith) (grind arith) (grind arith) (grind arith)

pub returns : goal.returns
returns c = whole c.args.m c.args.mark c.in-Some.c c.in-Some.operands.now (grind arith) (grind arith) (grind arith) (grind arith)
