-- the wires so far, with those that are left, are all
use Rattle.std.proofs.Common.{◌≡◌, ◌-◌, ◌++◌}
use Rattle.net_built.specs.Wires.{wires_from}
use Rattle.net_pieces.proofs.parts.wires_from.Given as goal

abbrev pub invariant-loop-place : goal.invariant-loop-place
invariant-loop-place l = l.wires.items ++ wires_from l.number (l.count - l._place) ≡ wires_from l.first l.count
