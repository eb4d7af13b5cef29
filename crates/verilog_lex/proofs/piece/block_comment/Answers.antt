use Rattle.std.proofs.Common.{arith}
use Rattle.verilog_lex.proofs.Comments.{open_block, whole_block}
use Rattle.verilog_lex.proofs.piece.block_comment.Goals as goal

pub returns : goal.returns
returns c =
    let end = c.in-Some.ensures.some in
    let fits = end.within in
    (omega arith, omega arith, whole_block c.args.inside.now c.in-Some.len end)

pub returns-in_default : goal.returns-in_default
returns-in_default c = open_block c.args.inside.now c.in_default.ensures.none
