-- The function `test_window` is the definition `test_window`.
use Rattle.check_tries.proofs.WindowSteps.{window-zeroed}
use Rattle.check_tries.proofs.windows.test_window.Goals as goal

pub returns : goal.returns
returns c = search window-zeroed
