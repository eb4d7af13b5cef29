use Rattle.ended_laws.proofs.CircuitBodies.{circuit_bodies_stand}
use Rattle.ended_laws.proofs.CircuitSides.{circuit_sides_stand}
use Rattle.ended_laws.proofs.laws.circuits_stand.Goals as goal

pub returns-clause-side : goal.returns-clause-side
returns-clause-side c =
    let names = c.names_of_modes.ensures in
    let measured = c.measured_types.ensures in
    let layout = c.same_types_keep_layout.ensures in
    let numbers = c.numbers_of_constructors.ensures in
    λ o at e t named k r p port. circuit_sides_stand names.decided names.kind names.kept c.nothing_unrolls.ensures measured.there layout.measure numbers.places o named at e t k p port

pub returns-clause-body : goal.returns-clause-body
returns-clause-body c =
    let names = c.names_of_modes.ensures in
    let measured = c.measured_types.ensures in
    let layout = c.same_types_keep_layout.ensures in
    let numbers = c.numbers_of_constructors.ensures in
    λ o at e t named k r p port. circuit_bodies_stand names.decided names.kind names.kept c.nothing_unrolls.ensures measured.there layout.measure numbers.places o named at e t k r p
