-- the zeros so far
use Rattle.std.proofs.Common.{false, replicate}
use Rattle.netlist.specs.declared.net.Flat.{Flat}
use Rattle.bit_laws.specs.BitNames.{furthers}
use Rattle.bit_laws.specs.Blast.{constants}
use Rattle.bit_blast.specs.Adding.{Adds}
use Rattle.bit_blast.proofs.rams.zeros.Given as goal

abbrev pub invariant-loop-place : goal.invariant-loop-place
invariant-loop-place l =
    (flat : Flat) → Adds flat l.initial.nodes.items l.nodes.items (constants (furthers l.w.number 0 l.place) (replicate l.place false))
