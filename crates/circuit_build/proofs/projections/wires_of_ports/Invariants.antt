-- the counts so far, with those of the ports that are left, are those of all
use Rattle.std.proofs.Common.{◌≡◌}
use Rattle.circuit_build.proofs.FieldWires.{CountsSoFar}
use Rattle.circuit_build.proofs.projections.wires_of_ports.Given as goal

abbrev pub invariant-loop-t : goal.invariant-loop-t
invariant-loop-t l =
    CountsSoFar l.initial.base.datas l.types l.t-index l.counts.items × (l.base ≡ l.initial.base)
