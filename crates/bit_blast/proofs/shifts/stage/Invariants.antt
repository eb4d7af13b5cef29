-- the places so far
use Rattle.netlist.specs.declared.net.Flat.{Flat}
use Rattle.bit_laws.specs.Blast.{choices}
use Rattle.bit_nodes.specs.Standing.{name_of}
use Rattle.bit_blast.specs.Adding.{Adds}
use Rattle.bit_blast.specs.Names.{by_places, names_of}
use Rattle.bit_blast.specs.Shifts.{moved_bit}
use Rattle.bit_blast.proofs.shifts.stage.Given as goal

abbrev pub invariant-loop-place : goal.invariant-loop-place
invariant-loop-place l =
    (flat : Flat) → Adds flat l.initial.nodes.items l.nodes.items
    (choices (name_of flat l.by) (names_of flat l.outs l.place) (by_places (λ j. name_of flat (moved_bit l.moved l.bits j)) l.place)
    (names_of flat l.bits l.place))
