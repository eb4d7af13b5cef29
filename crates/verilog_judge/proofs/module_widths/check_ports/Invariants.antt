-- the checks of the ports that are left are still to be taken
use Rattle.std.proofs.Common.{◌≡◌, drop}
use Rattle.verilog_checks.specs.Least.{least_after}
use Rattle.verilog_rules.specs.WidthRules.{port_checks}
use Rattle.verilog_judge.proofs.module_widths.check_ports.Given as goal

abbrev pub invariant-loop-k : goal.invariant-loop-k
invariant-loop-k l = least_after l.least (port_checks l.widths (drop l.k l.ports) (drop l.k l.operands)) ≡ least_after l.initial.least (port_checks l.widths l.ports l.operands)
