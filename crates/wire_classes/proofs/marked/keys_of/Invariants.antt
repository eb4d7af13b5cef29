-- the keys so far
use Rattle.std.proofs.Common.{◌≡◌, map, take}
use Rattle.wire_classes.specs.Closed.{bits_in}
use Rattle.wire_classes.specs.Keys.{known_key}
use Rattle.wire_classes.proofs.marked.keys_of.Given as goal

abbrev pub invariant-loop-w : goal.invariant-loop-w
invariant-loop-w l = l.keys.items ≡ map (λ w. known_key (bits_in l.values w)) (take l.w-index l.wires)
