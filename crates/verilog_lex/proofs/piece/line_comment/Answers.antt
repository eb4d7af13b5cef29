use Rattle.std.proofs.Common.{arith}
use Rattle.verilog_lex.proofs.Comments.{last_line, whole_line}
use Rattle.verilog_lex.proofs.piece.line_comment.Goals as goal

pub returns-then-len-line : goal.returns-then-len-line
returns-then-len-line c = (omega arith, omega arith, whole_line c.args.line.now c.run_len-len.result c.run_len-len.ensures c.if-len-line.true)

pub returns-else-len-line : goal.returns-else-len-line
returns-else-len-line c = last_line c.args.line.now c.run_len-len.result c.run_len-len.ensures c.if-len-line.false
