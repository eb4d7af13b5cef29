-- the ports that are left are still to be looked at
use Rattle.std.proofs.Common.{◌≡◌, drop}
use Rattle.verilog_checks.specs.Least.{least_after}
use Rattle.verilog_rules.specs.Declarations.{ports_in}
use Rattle.verilog_rules.specs.NameRules.{order_checks}
use Rattle.verilog_names.proofs.ports.check_order.Given as goal

abbrev pub invariant-loop-port : goal.invariant-loop-port
invariant-loop-port l =
    least_after l.least (order_checks l.before (drop l.port-index l.port-items)) ≡ least_after l.fn.least (order_checks 0 (ports_in l.m))
