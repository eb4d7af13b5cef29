-- the modules that are left are still to be looked at
use Rattle.std.proofs.Common.{◌≡◌, drop}
use Rattle.verilog_checks.specs.Least.{least_after}
use Rattle.verilog_rules.specs.DriverRules.{drivers_from}
use Rattle.verilog_judge.proofs.module_drivers.check_modules.Given as goal

abbrev pub invariant-loop-k : goal.invariant-loop-k
invariant-loop-k l = least_after l.least (drivers_from (drop l.k l.modules)) ≡ least_after l.initial.least (drivers_from l.modules)
