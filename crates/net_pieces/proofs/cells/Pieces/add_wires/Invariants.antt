-- the wires so far, with those that are left, are all
use Rattle.std.proofs.Common.{◌≡◌, [], drop}
use Rattle.net_built.specs.Wires.{present, ◌▸◌}
use Rattle.net_pieces.proofs.cells.Pieces.add_wires.Given as goal

abbrev pub invariant-loop-w : goal.invariant-loop-w
invariant-loop-w l =
    l.self ▸ record { widths = present (drop l.w-index l.widths); cells = [] }
    ≡ l.initial.self ▸ record { widths = present l.widths; cells = [] }
