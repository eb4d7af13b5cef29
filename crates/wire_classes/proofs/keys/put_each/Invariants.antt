-- the labels so far
use Rattle.std.proofs.Common.{◌≡◌, ◌++◌, take}
use Rattle.std.specs.List.{flat_map}
use Rattle.wire_classes.specs.Closed.{labels_of}
use Rattle.wire_classes.specs.Keys.{tagged}
use Rattle.wire_classes.proofs.keys.put_each.Given as goal

abbrev pub invariant-loop-w : goal.invariant-loop-w
invariant-loop-w l = l.key.items ≡ l.fn.key.items ++ flat_map (tagged 1) (labels_of l.of (take l.w-index l.wires))
