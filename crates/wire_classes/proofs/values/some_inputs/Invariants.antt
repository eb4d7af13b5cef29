-- bits for the inputs so far
use Rattle.std.proofs.Common.{◌≡◌, length, map, take}
use Rattle.wire_classes.proofs.values.some_inputs.Given as goal

abbrev pub invariant-loop-port : goal.invariant-loop-port
invariant-loop-port l = map length l.inputs.items ≡ map (λ port. port.width) (take l.port-index l.ports)
