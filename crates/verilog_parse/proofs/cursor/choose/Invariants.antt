use Rattle.std.proofs.Common.{take}
use Rattle.verilog_parse.specs.Slots.{tokens_in}
use Rattle.verilog_parse.proofs.Chosen.{Tried}
use Rattle.verilog_parse.proofs.cursor.choose.Given as goal

abbrev pub invariant-loop-row : goal.invariant-loop-row
invariant-loop-row l = Tried (take l.row-index l.row-items) (tokens_in l.tokens) l.longest
