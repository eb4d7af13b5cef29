-- the flat wires of the wires so far
use Rattle.std.proofs.Common.{◌≡◌, take, map}
use Rattle.net_flat.specs.Flattened.{wire_from}
use Rattle.net_flat.proofs.moves.moved_wires.Given as goal

abbrev pub invariant-loop-w : goal.invariant-loop-w
invariant-loop-w l = l.moved.items ≡ map (wire_from l.base) (take l.w-index l.wires)
