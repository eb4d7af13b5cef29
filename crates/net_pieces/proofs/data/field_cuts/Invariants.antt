-- the cuts so far, with those that are left, are all
use Rattle.std.proofs.Common.{◌≡◌, drop, length}
use Rattle.net_built.specs.Data.{field_cuts}
use Rattle.net_built.specs.Wires.{◌▸◌}
use Rattle.net_pieces.proofs.data.field_cuts.Given as goal

abbrev pub invariant-loop-w : goal.invariant-loop-w
invariant-loop-w l =
    l.into ▸ field_cuts l.left l.a (drop l.w-index l.widths) (length l.into.widths)
    ≡ l.initial.into ▸ field_cuts l.below l.a l.widths (length l.initial.into.widths)
