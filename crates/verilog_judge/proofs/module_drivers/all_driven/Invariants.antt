-- the wires that the drivers so far drive
use Rattle.std.proofs.Common.{◌≡◌, take}
use Rattle.std.specs.List.{flat_map}
use Rattle.verilog_rules.specs.DriverRules.{drives}
use Rattle.verilog_judge.proofs.module_drivers.all_driven.Given as goal

abbrev pub invariant-loop-driver : goal.invariant-loop-driver
invariant-loop-driver l = l.driven.items ≡ flat_map drives (take l.driver-index l.drivers)
