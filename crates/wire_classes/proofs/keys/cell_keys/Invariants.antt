-- the keys so far
use Rattle.std.proofs.Common.{◌≡◌, map, take}
use Rattle.wire_classes.specs.Keys.{cell_key}
use Rattle.wire_classes.proofs.keys.cell_keys.Given as goal

abbrev pub invariant-loop-cell : goal.invariant-loop-cell
invariant-loop-cell l = l.keys.items ≡ map (cell_key l.of) (take l.cell-index l.cell-items)
