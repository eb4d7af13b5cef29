-- the outputs that the drivers so far drive
use Rattle.std.proofs.Common.{◌≡◌, map, take}
use Rattle.std.specs.List.{flat_map}
use Rattle.verilog_judge.specs.Marks.{as_operand}
use Rattle.verilog_rules.specs.DriverRules.{shows}
use Rattle.verilog_judge.proofs.module_drivers.all_shown.Given as goal

abbrev pub invariant-loop-driver : goal.invariant-loop-driver
invariant-loop-driver l = l.shown.items ≡ map as_operand (flat_map shows (take l.driver-index l.drivers))
