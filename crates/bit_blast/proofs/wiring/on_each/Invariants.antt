-- the gates on the bits so far
use Rattle.netlist.specs.declared.net.Flat.{Flat}
use Rattle.bit_laws.specs.Blast.{on_each}
use Rattle.bit_blast.specs.Adding.{Adds}
use Rattle.bit_blast.specs.Gating.{gate_of_one}
use Rattle.bit_blast.specs.Names.{names_of}
use Rattle.bit_blast.proofs.wiring.on_each.Given as goal

abbrev pub invariant-loop-place : goal.invariant-loop-place
invariant-loop-place l =
    (flat : Flat) → Adds flat l.fn.nodes.items l.nodes.items
    (on_each (gate_of_one l.gate) (names_of flat l.outs l.place) (names_of flat l.xs l.place))
