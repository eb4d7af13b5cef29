use Rattle.std.proofs.Common.{arith, take}
use Rattle.verilog_lex.proofs.Comments.{white_gap}
use Rattle.verilog_lex.proofs.piece.piece_at.Goals as goal

pub returns-then-white-gt0 : goal.returns-then-white-gt0
returns-then-white-gt0 c =
    let run = c.run_len-white.ensures in
    (omega arith, run.within, white_gap (take c.run_len-white.result c.args.bytes.now) run.passes)
