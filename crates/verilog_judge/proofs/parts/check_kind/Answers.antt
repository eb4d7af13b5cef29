use Rattle.std.proofs.Common.{subst}
use Rattle.verilog_judge.specs.Read.{IsReadKind}
use Rattle.verilog_judge.proofs.parts.check_kind.Goals as goal

pub check_word-requires : goal.check_word-requires
check_word-requires c = (subst IsReadKind c.in-Register-default-None.is c.requires).0
