-- `test_blocks` is `blocks_from`.
use native.Mathlib.Omega.{arith}
use Rattle.check_tries.proofs.WindowSteps.{blocks_more}
use Rattle.check_tries.proofs.windows.test_blocks.Goals as goal

pub loop-j-preserved : goal.loop-j-preserved
loop-j-preserved c = (search blocks_more, omega arith)
