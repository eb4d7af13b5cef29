use Rattle.std.proofs.Common.{subst}
use Rattle.verilog_judge.specs.Meant.{IsMeantIf}
use Rattle.verilog_judge.proofs.building.first_bits.Goals as goal

pub bits-requires : goal.bits-requires
bits-requires c = subst IsMeantIf c.in-Some.is c.requires
