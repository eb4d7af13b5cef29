-- What calls add to the nodes that are made so far.
use Rattle.std.specs.Prelude.{◌≡◌, List, ◌++◌, map}
use Rattle.netlist.specs.declared.net.Flat.{Flat}
use Rattle.bit_laws.specs.Bitnet.{Node}
use Rattle.bit_nodes.specs.Standing.{node_of}
use Rattle.bit_nodes.specs.declared.nodes.BitNode.{BitNode}

-- the new nodes are the old ones, and behind them some that are these
abbrev pub Adds : Flat → (old new : List BitNode) → List Node → Type 0
Adds flat old new these = map (node_of flat) new ≡ map (node_of flat) old ++ these
