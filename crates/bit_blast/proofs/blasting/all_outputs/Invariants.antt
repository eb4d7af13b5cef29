-- what is made, with the outputs that are left, is all
use Rattle.std.proofs.Common.{◌≡◌, ◌++◌, map, drop}
use Rattle.bit_laws.specs.Blast.{output_nodes}
use Rattle.bit_nodes.specs.Standing.{node_of}
use Rattle.bit_blast.proofs.blasting.all_outputs.Given as goal

abbrev pub invariant-loop-port : goal.invariant-loop-port
invariant-loop-port l =
    map (node_of l.flat) l.nodes.items ++ output_nodes l.flat (drop l.port l.flat.ports.outputs) (drop l.port l.flat.outputs)
    ≡ map (node_of l.flat) l.fn.nodes.items ++ output_nodes l.flat l.flat.ports.outputs l.flat.outputs
