use Rattle.std.proofs.Common.{subst}
use Rattle.verilog_judge.specs.Meant.{IsMeantDriver}
use Rattle.verilog_judge.proofs.building.cell_by.Goals as goal

pub value_cell-requires : goal.value_cell-requires
value_cell-requires c = subst IsMeantDriver c.in-Assign.is c.requires.driver

pub ram_cell-requires : goal.ram_cell-requires
ram_cell-requires c = subst IsMeantDriver c.in-Ram.is c.requires.driver
