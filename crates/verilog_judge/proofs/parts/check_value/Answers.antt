use Rattle.std.proofs.Common.{subst}
use Rattle.verilog_judge.specs.Read.{IsReadValue}
use Rattle.verilog_judge.proofs.parts.check_value.Goals as goal

pub check_word-requires : goal.check_word-requires
check_word-requires c = subst IsReadValue c.in-Constant.is c.requires

pub check_cut-requires : goal.check_cut-requires
check_cut-requires c = subst IsReadValue c.in-Cut.is c.requires
