-- The function `test_windows` is the definition `test_windows`.
use native.Mathlib.Omega.{arith}
use borrow.Author.Rules.{rules}
use Rattle.check_tries.proofs.WindowSteps.{windows-start, windows-done, windows-past, windows-no, windows-next}
use Rattle.check_tries.proofs.windows.test_windows.Goals as goal

pub loop-k-init : goal.loop-k-init
loop-k-init c = (windows-start _ _ _ _ _ _ _ _, search rules)

pub returns-then-h-from : goal.returns-then-h-from
returns-then-h-from c = search windows-past

pub returns-then-not-test_window : goal.returns-then-not-test_window
returns-then-not-test_window c = search windows-no

pub loop-k-preserved : goal.loop-k-preserved
loop-k-preserved c = (search windows-next, omega arith)

pub returns : goal.returns
returns c = search windows-done
