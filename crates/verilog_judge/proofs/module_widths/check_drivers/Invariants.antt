-- the checks of the drivers that are left are still to be taken
use Rattle.std.proofs.Common.{◌≡◌, drop}
use Rattle.std.specs.List.{flat_map}
use Rattle.verilog_checks.specs.Least.{least_after}
use Rattle.verilog_rules.specs.WidthRules.{driver_width_checks}
use Rattle.verilog_judge.proofs.module_widths.check_drivers.Given as goal

abbrev pub invariant-loop-driver : goal.invariant-loop-driver
invariant-loop-driver l = least_after l.least (flat_map (driver_width_checks l.earlier l.m) (drop l.driver-index l.drivers)) ≡ least_after l.initial.least (flat_map (driver_width_checks l.earlier l.m) l.drivers)
