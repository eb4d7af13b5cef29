-- those of the ports that are left are still to be added
use Rattle.std.proofs.Common.{◌≡◌, ◌++◌, drop}
use Rattle.verilog_rules.specs.Declarations.{inputs_of, ports_in}
use Rattle.verilog_names.proofs.ports.inputs_of.Given as goal

abbrev pub invariant-loop-port : goal.invariant-loop-port
invariant-loop-port l =
    l.inputs.items ++ inputs_of (drop l.port-index l.port-items) ≡ inputs_of (ports_in l.m)
