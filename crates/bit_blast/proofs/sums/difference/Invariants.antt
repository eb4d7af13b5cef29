-- the difference of the bits so far
use Rattle.netlist.specs.declared.net.Flat.{Flat}
use Rattle.netlist.specs.declared.net.Op2.TheVariants.{Sub}
use Rattle.bit_laws.specs.Blast.{binary_nodes}
use Rattle.bit_blast.specs.Adding.{Adds}
use Rattle.bit_blast.specs.Names.{lowest}
use Rattle.bit_blast.proofs.sums.difference.Given as goal

abbrev pub invariant-loop-place : goal.invariant-loop-place
invariant-loop-place l =
    (flat : Flat) → Adds flat l.fn.nodes.items l.nodes.items
    (binary_nodes Sub l.w.number (lowest flat l.w.number l.place) (lowest flat l.a.number l.place) (lowest flat l.b.number l.place))
