-- What circuits are at rest: right sides and bodies of the normal form.
use Rattle.std.specs.Prelude.{◌≡◌, ◌⊎◌, true, false}
use Rattle.chw_types.specs.TypeTree.{TypeTree}
use Rattle.type_ports.specs.Ports.{IsPort}
use Rattle.chw_terms.specs.declared.scene.Mode.TheVariants.{C}
use Rattle.chw_terms.specs.TermTree.{TermTree}
use Rattle.normal_forms.specs.Circuits.{IsCircuitSide, IsCircuitBody}
use Rattle.rewriting.specs.Origins.{Origins}
use Rattle.rewriting.specs.Shapes.{IsLet}
use Rattle.rewriting.specs.Spots.{Spot}
use Rattle.rest_places.specs.Chains.{MadeAreNamed}
use Rattle.rest_places.specs.Rest.{IsRestPlace}

-- where circuits are built, a term at rest of which the type is a port is a right side or a letrec
abbrev pub CircuitSidesStand : Type 0
CircuitSidesStand =
    (o : Origins) (at : Spot) (e : TermTree) (t : TypeTree)
    → MadeAreNamed o → at.mode ≡ C → at.result ≡ false → IsRestPlace o at e t
    → IsPort o.program.datas t → IsCircuitSide o e ⊎ IsLet e

-- and at a result place it is a body
abbrev pub CircuitBodiesStand : Type 0
CircuitBodiesStand =
    (o : Origins) (at : Spot) (e : TermTree) (t : TypeTree)
    → MadeAreNamed o → at.mode ≡ C → at.result ≡ true → IsRestPlace o at e t
    → IsPort o.program.datas t → IsCircuitBody o e
