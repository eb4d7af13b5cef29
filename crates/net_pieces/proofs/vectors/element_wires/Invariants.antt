-- the wires so far, with those that are left, are all
use Rattle.std.proofs.Common.{◌≡◌, ◌-◌, ◌++◌}
use Rattle.net_built.specs.Vectors.{element_wires}
use Rattle.net_pieces.proofs.vectors.element_wires.Given as goal

abbrev pub invariant-loop-place : goal.invariant-loop-place
invariant-loop-place l =
    l.all.items ++ element_wires l.width (l.count - l._place) l.number ≡ element_wires l.width l.count l.first
