use Rattle.std.proofs.Common.{arith}
use Rattle.chw_lexer.proofs.Pieces.{whole_comment, last_comment}
use Rattle.chw_lexer.proofs.piece.comment_of.Goals as goal

pub returns-then-len-line : goal.returns-then-len-line
returns-then-len-line c = (omega arith, omega arith, whole_comment c.args.line.now c.run_len-len.result c.run_len-len.ensures c.if-len-line.true)

pub returns-else-len-line : goal.returns-else-len-line
returns-else-len-line c = last_comment c.args.line.now c.run_len-len.result c.run_len-len.ensures c.if-len-line.false
