-- the bits so far
use Rattle.netlist.specs.declared.net.Flat.{Flat}
use Rattle.bit_laws.specs.BitNames.{furthers}
use Rattle.bit_laws.specs.Blast.{masked}
use Rattle.bit_nodes.specs.Standing.{name_of}
use Rattle.bit_blast.specs.Adding.{Adds}
use Rattle.bit_blast.specs.Names.{lowest}
use Rattle.bit_blast.proofs.products.first_row.Given as goal

abbrev pub invariant-loop-place : goal.invariant-loop-place
invariant-loop-place l =
    (flat : Flat) → Adds flat l.initial.nodes.items l.nodes.items
    (masked (furthers l.w.number 0 l.place) (lowest flat l.a.number l.place) (name_of flat l.mask))
