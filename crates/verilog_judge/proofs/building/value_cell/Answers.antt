use Rattle.std.proofs.Common.{subst}
use Rattle.verilog_judge.specs.Meant.{IsMeantValue}
use Rattle.verilog_judge.proofs.building.value_cell.Goals as goal

pub bits-requires : goal.bits-requires
bits-requires c = subst IsMeantValue c.in-Constant.is c.requires

pub cut_cell-requires : goal.cut_cell-requires
cut_cell-requires c = subst IsMeantValue c.in-Cut.is c.requires
