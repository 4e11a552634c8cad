-- `run_on` is a run of the journal. It ends: fewer bytes are left after a turn that goes on.
use Rattle.std.proofs.Common.{◌≤◌, length, ◌-◌, true}
use Rattle.lent.specs.Lists.{output_of}
use Rattle.journal_calls.specs.Desk.{tables_of}
use Rattle.journal_turns.specs.Turns.{state}
use Rattle.journal_turns.specs.Runs.{Ran}
use Rattle.vetchdawn.proofs.run_on.Given as goal

abbrev pub invariant-loop-out : goal.invariant-loop-out
invariant-loop-out l = record {
  ran : Ran l.bytes (tables_of l.fn.program.desk) (output_of l.fn.program.desk.lists) true (state (tables_of l.program.desk) (output_of l.program.desk.lists) l.at l.m);
  inside : l.at ≤ length l.bytes;
}

-- the bytes left
abbrev pub decreases-loop-out : goal.decreases-loop-out
decreases-loop-out l = length l.bytes - l.at
