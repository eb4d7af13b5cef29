use Rattle.std.proofs.Common.{length, ◌-◌}
use Rattle.verilog_lex.specs.Shown.{placed}
use Rattle.verilog_lex.proofs.Splits.{SplitsBefore}
use Rattle.verilog_lex.proofs.splitting.lex.Given as goal

abbrev pub invariant-loop-at : goal.invariant-loop-at
invariant-loop-at l = SplitsBefore l.text l.at (placed l.tokens.items)

abbrev pub decreases-loop-at : goal.decreases-loop-at
decreases-loop-at l = length l.text - l.at
