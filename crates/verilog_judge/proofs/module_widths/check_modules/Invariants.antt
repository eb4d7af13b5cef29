-- the checks of the modules that are left are still to be taken
use Rattle.std.proofs.Common.{◌≡◌, drop, take, []}
use Rattle.verilog_checks.specs.Least.{least_after}
use Rattle.verilog_rules.specs.WidthRules.{widths_from}
use Rattle.verilog_judge.proofs.module_widths.check_modules.Given as goal

abbrev pub invariant-loop-k : goal.invariant-loop-k
invariant-loop-k l = least_after l.least (widths_from (take l.k l.modules) (drop l.k l.modules)) ≡ least_after l.initial.least (widths_from [] l.modules)
