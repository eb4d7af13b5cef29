-- those of the ports that are left are still to be added
use Rattle.std.proofs.Common.{◌≡◌, ◌++◌, drop}
use Rattle.verilog_rules.specs.Declarations.{signals_of, ports_in}
use Rattle.verilog_names.proofs.ports.signals_of.Given as goal

abbrev pub invariant-loop-port : goal.invariant-loop-port
invariant-loop-port l =
    l.signals.items ++ signals_of (drop l.port-index l.port-items) ≡ signals_of (ports_in l.m)
