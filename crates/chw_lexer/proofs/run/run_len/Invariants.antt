use Rattle.std.proofs.Common.{take}
use Rattle.chw_base.specs.Names.{AllOf}
use Rattle.chw_lexer.specs.Scanning.{is_of}
use Rattle.chw_lexer.proofs.run.run_len.Given as goal

abbrev pub invariant-loop-n : goal.invariant-loop-n
invariant-loop-n l = AllOf (is_of l.class) (take l.n l.bytes)
