-- those of the ports that are left are still to be added
use Rattle.std.proofs.Common.{◌≡◌, ◌++◌, drop}
use Rattle.verilog_rules.specs.Declarations.{outputs_of, ports_in}
use Rattle.verilog_names.proofs.ports.outputs_of.Given as goal

abbrev pub invariant-loop-port : goal.invariant-loop-port
invariant-loop-port l =
    l.outputs.items ++ outputs_of (drop l.port-index l.port-items) ≡ outputs_of (ports_in l.m)
