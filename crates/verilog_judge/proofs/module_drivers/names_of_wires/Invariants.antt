-- the names of the wires so far
use Rattle.std.proofs.Common.{◌≡◌, map, take}
use Rattle.verilog_rules.specs.declared.resolved.Wire.{Wire}
use Rattle.verilog_judge.proofs.module_drivers.names_of_wires.Given as goal

abbrev pub invariant-loop-wire : goal.invariant-loop-wire
invariant-loop-wire l = l.names.items ≡ map (λ (w : Wire). w.line.name) (take l.wire-index l.wires)
