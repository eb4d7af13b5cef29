-- what is written, with the nodes that are left, is all
use Rattle.std.proofs.Common.{◌≡◌, ◌++◌, drop, map}
use Rattle.std.specs.List.{flat_map}
use Rattle.bit_nodes.specs.Standing.{node_of}
use Rattle.blif_text.specs.Pieces.{node_text}
use Rattle.blif_text.proofs.nodes.put_nodes.Given as goal

abbrev pub invariant-loop-node : goal.invariant-loop-node
invariant-loop-node l =
    l.out.items ++ flat_map node_text (map (node_of l.flat) (drop l.node-index l.nodes))
    ≡ l.initial.out.items ++ flat_map node_text (map (node_of l.flat) l.nodes)
