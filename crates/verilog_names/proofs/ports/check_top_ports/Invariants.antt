-- the ports that are left are still to be looked at
use Rattle.std.proofs.Common.{◌≡◌, drop}
use Rattle.std.specs.List.{flat_map}
use Rattle.verilog_checks.specs.Least.{least_after}
use Rattle.verilog_rules.specs.Declarations.{ports_in}
use Rattle.verilog_rules.specs.NameRules.{port_form}
use Rattle.verilog_names.proofs.ports.check_top_ports.Given as goal

abbrev pub invariant-loop-port : goal.invariant-loop-port
invariant-loop-port l =
    least_after l.least (flat_map (port_form l.domains) (drop l.port-index l.port-items)) ≡ least_after l.fn.least (flat_map (port_form l.domains) (ports_in l.top))
