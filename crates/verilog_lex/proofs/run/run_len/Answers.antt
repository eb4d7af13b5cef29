use Rattle.std.proofs.Common.{sym, ◌∙◌, add-one}
use Rattle.verilog_lex.specs.Scanning.{is_of}
use Rattle.verilog_lex.proofs.Runs.{passes_more}
use Rattle.verilog_lex.proofs.run.run_len.Goals as goal

pub loop-n-preserved : goal.loop-n-preserved
loop-n-preserved c =
    rw add-one (passes_more (is_of c.args.class) c.args.bytes.now c.loop-n.n c.loop-n-test.true c.loop-n.invariant (sym c.is_of.ensures ∙ c.if-not-is_of.false))
