use Rattle.std.proofs.Common.{take}
use Rattle.chw_base.specs.Names.{AllOf}
use Rattle.verilog_lex.specs.Scanning.{is_of}
use Rattle.verilog_lex.proofs.run.run_len.Given as goal

abbrev pub invariant-loop-n : goal.invariant-loop-n
invariant-loop-n l = AllOf (is_of l.class) (take l.n l.bytes)
