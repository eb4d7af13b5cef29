-- the outputs so far
use Rattle.std.proofs.Common.{◌≡◌, length, map, take}
use Rattle.net_sim.proofs.opening.first_outputs.Given as goal

abbrev pub invariant-loop-port : goal.invariant-loop-port
invariant-loop-port l = map length l.outputs.items ≡ map (λ port. port.width) (take l.port-index l.port-items)
