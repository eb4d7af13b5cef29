-- the wires of the cells so far
use Rattle.std.proofs.Common.{◌≡◌, ◌+◌, map, take}
use Rattle.netlist.specs.Orders.{wire_numbers}
use Rattle.netlist.proofs.ordering.wires_of.Given as goal

abbrev pub invariant-loop-place : goal.invariant-loop-place
invariant-loop-place l = wire_numbers l.wires.items ≡ map (λ place. l.inputs + place) (take l.place-index l.places)
