-- `carry_out`: what the command came to, its line, and where the program then stands.
use Rattle.journal_turns.proofs.Takes.{carried-out}
use Rattle.journal_turns.proofs.turn.carry_out.Goals as goal

pub returns-clause-carried : goal.returns-clause-carried
returns-clause-carried c = let line = c in let done = line in let args = done.args in let put = line.command_line-length.ensures in (carried-out args.bytes.now _ _ _ _ args.at args.m _ put.upper_bound args.command args.to _ _ _ _ _ _ _
    done.execute-outcome.ensures.executed put.line_after put.value c.goes_on-going.ensures c.offset_after.ensures c.symbols_after.ensures).0

pub returns-clause-line_after : goal.returns-clause-line_after
returns-clause-line_after c = let line = c in let done = line in let args = done.args in let put = line.command_line-length.ensures in (carried-out args.bytes.now _ _ _ _ args.at args.m _ put.upper_bound args.command args.to _ _ _ _ _ _ _
    done.execute-outcome.ensures.executed put.line_after put.value c.goes_on-going.ensures c.offset_after.ensures c.symbols_after.ensures).1.0
