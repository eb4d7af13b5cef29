-- the checks of what is left are still to be taken
use Rattle.std.proofs.Common.{◌≡◌, drop}
use Rattle.std.specs.List.{flat_map}
use Rattle.verilog_checks.specs.Least.{least_after}
use Rattle.verilog_rules.specs.Limits.{port_limits}
use Rattle.verilog_limits.proofs.limiting.limit_ports.Given as goal

abbrev pub invariant-loop-port : goal.invariant-loop-port
invariant-loop-port l = least_after l.least (flat_map port_limits (drop l.port-index l.ports)) ≡ least_after l.initial.least (flat_map port_limits l.ports)
