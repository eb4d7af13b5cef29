use Rattle.verilog_lex.proofs.Comments.{HasNoEndBelow}
use Rattle.verilog_lex.proofs.piece.end_of.Given as goal

abbrev pub invariant-loop-n : goal.invariant-loop-n
invariant-loop-n l = HasNoEndBelow l.inside l.n
