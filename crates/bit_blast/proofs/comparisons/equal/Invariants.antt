-- whether the bits so far are equal
use Rattle.netlist.specs.declared.net.Flat.{Flat}
use Rattle.std.proofs.Common.{[], ◌∷◌}
use Rattle.bit_laws.specs.BitNames.{further}
use Rattle.bit_laws.specs.Blast.{equal_nodes, gate_of}
use Rattle.bit_laws.specs.Gates.Gate.{always}
use Rattle.bit_blast.specs.Adding.{Adds}
use Rattle.bit_blast.specs.Names.{lowest}
use Rattle.bit_blast.proofs.comparisons.equal.Given as goal

abbrev pub invariant-loop-place : goal.invariant-loop-place
invariant-loop-place l =
    (flat : Flat) → Adds flat l.fn.nodes.items l.nodes.items
    (gate_of always [] (further l.w.number 0) ∷ equal_nodes l.w.number (lowest flat l.a.number l.place) (lowest flat l.b.number l.place))
