-- the elements so far, with those that are left, are all
use Rattle.std.proofs.Common.{◌≡◌, length}
use Rattle.net_built.specs.Vectors.{elements}
use Rattle.net_built.specs.Wires.{◌▸◌}
use Rattle.net_pieces.proofs.vectors.elements.Given as goal

abbrev pub invariant-loop-behind : goal.invariant-loop-behind
invariant-loop-behind l =
    l.into ▸ elements l.width l.behind (length l.into.widths) l.v
    ≡ l.initial.into ▸ elements l.width l.count (length l.initial.into.widths) l.v
