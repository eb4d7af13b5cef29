use Rattle.std.proofs.Common.{sym, subst}
use Rattle.verilog_judge.proofs.OfWires.{formed_literal}
use Rattle.verilog_judge.specs.Read.{IsFormedIf}
use Rattle.verilog_judge.proofs.registers.check_register.Goals as goal

pub check_reset-requires-clause-first : goal.check_reset-requires-clause-first
check_reset-requires-clause-first c = subst IsFormedIf (sym c.literal_of.ensures) (formed_literal c.args.kind c.requires.kind)
