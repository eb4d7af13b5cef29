-- what is there, with the inputs that are left, is all
use Rattle.std.proofs.Common.{◌≡◌, ◌++◌, drop, map}
use Rattle.waves.specs.Vcd.{input_variable}
use Rattle.waves.proofs.header.put_inputs.Given as goal

abbrev pub invariant-loop-port : goal.invariant-loop-port
invariant-loop-port l =
    l.into.items ++ map (input_variable l.ports.domains) (drop l.port-index l.port-items)
    ≡ l.initial.into.items ++ map (input_variable l.ports.domains) l.port-items
