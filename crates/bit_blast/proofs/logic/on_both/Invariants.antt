-- the gates on the bits so far
use Rattle.netlist.specs.declared.net.Flat.{Flat}
use Rattle.bit_laws.specs.Blast.{on_both}
use Rattle.bit_blast.specs.Gating.{gate_of_two}
use Rattle.bit_blast.specs.Adding.{Adds}
use Rattle.bit_blast.specs.Names.{lowest}
use Rattle.bit_blast.proofs.logic.on_both.Given as goal

abbrev pub invariant-loop-place : goal.invariant-loop-place
invariant-loop-place l =
    (flat : Flat) → Adds flat l.fn.nodes.items l.nodes.items
    (on_both (gate_of_two l.gate) (lowest flat l.w.number l.place) (lowest flat l.a.number l.place) (lowest flat l.b.number l.place))
