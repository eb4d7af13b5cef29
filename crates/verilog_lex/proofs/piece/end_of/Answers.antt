use Rattle.verilog_lex.proofs.Comments.{end_found, no_end_of}
use Rattle.std.proofs.Common.{arith}
use Rattle.verilog_lex.proofs.piece.end_of.Goals as goal

pub returns-then-inside-n-eq47-clause-some : goal.returns-then-inside-n-eq47-clause-some
returns-then-inside-n-eq47-clause-some c =
    end_found c.args.inside.now c.loop-n.n (omega arith) c.loop-n-test.true c.loop-n.invariant c.if-inside-n-eq42.true c.if-inside-n-eq47.true

pub returns-clause-none : goal.returns-clause-none
returns-clause-none c = no_end_of c.args.inside.now c.loop-n.n c.loop-n-test.false c.loop-n.invariant
