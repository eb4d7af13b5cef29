-- the field is that of a lower number among the fields that are left
use Rattle.std.proofs.Common.{◌≡◌, ◌-◌, ◌≤◌, drop}
use Rattle.circuit_build.specs.Projections.{counted_field}
use Rattle.circuit_build.proofs.projections.field_wires.Given as goal

abbrev pub invariant-loop-i : goal.invariant-loop-i
invariant-loop-i l =
    (counted_field l.number l.counts l.wires ≡ counted_field (l.number - l.i) (drop l.i l.counts) l.left)
    × (l.i ≤ l.number)
