-- `take_turn` is a turn, by what was read at the offset.
use mathlib.Core.Path.{◌≡◌}
use mathlib.Core.List.{[]}
use Rattle.lent.specs.Lists.{output_of}
use Rattle.journal_calls.specs.Desk.{tables_of}
use Rattle.refusals.specs.declared.Refusal.{Refusal}
use Rattle.journal.specs.declared.commands.Step.{Step}
use Rattle.journal.specs.Steps.{Stepped}
use Rattle.journal.proofs.Steps.{symbols-there}
use Rattle.journal_turns.proofs.Takes.{moved_to, take_ended, take-refused, take-carried}
use Rattle.journal_turns.proofs.turn.take_turn.Goals as goal
use Rattle.journal_turns.proofs.turn.take_turn.Goals.{After-read}

-- what was read
stepped : (c : After-read) {s : Step Refusal} → c.read.result ≡ s → Stepped c.args.m c.args.bytes.now c.args.at s
stepped c e = moved_to _ _ _ e c.read.ensures

pub carry_out-requires-clause-command_in_bounds : goal.carry_out-requires-clause-command_in_bounds
carry_out-requires-clause-command_in_bounds c =
    let read = (goal.at.carry_out-requires-clause-command_in_bounds c).After-read in
    symbols-there _ _ _ c.in-Taken.command c.in-Taken.to (stepped read c.in-Taken.is)

pub returns-in-Taken-clause-turned : goal.returns-in-Taken-clause-turned
returns-in-Taken-clause-turned c =
    let read = (goal.at.returns-in-Taken-clause-turned c).After-read in
    take-carried c.in-Taken.command c.in-Taken.to (stepped read c.in-Taken.is) c.carry_out.ensures.carried

pub returns-in-Refused-clause-turned : goal.returns-in-Refused-clause-turned
returns-in-Refused-clause-turned c =
    let read = (goal.at.returns-in-Refused-clause-turned c).After-read in
    let args = c.args in
    let put = c.refusal_line.ensures in
    (take-refused args.bytes.now _ _ _ _ args.at args.m _ put.upper_bound c.in-Refused.refusal _ (stepped read c.in-Refused.is) c.number.ensures put.out_after put.value).0

pub returns-in-Refused-clause-line_after : goal.returns-in-Refused-clause-line_after
returns-in-Refused-clause-line_after c =
    let read = (goal.at.returns-in-Refused-clause-line_after c).After-read in
    let args = c.args in
    let desk = args.program.now.desk in
    let put = c.refusal_line.ensures in
    (take-refused
    args.bytes.now _ _ (tables_of desk) (output_of desk.lists) args.at args.m _ put.upper_bound c.in-Refused.refusal _ (stepped read c.in-Refused.is) c.number.ensures
    put.out_after put.value).1.0

pub returns-in-End-clause-turned : goal.returns-in-End-clause-turned
returns-in-End-clause-turned c =
    let read = (goal.at.returns-in-End-clause-turned c).After-read in
    take_ended c.args.bytes.now [] c.args.program.now.line.now _ _ c.args.at c.args.m 0 (stepped read c.in-End.is)
