-- Where circuits are built, a constructor of a port at rest is on variables.
use Rattle.std.proofs.Common.{◌≡◌, sym, subst, ℕ, List}
use Rattle.chw_types.specs.TypeTree.{TypeTree}
use Rattle.type_ports.specs.Ports.{IsPort}
use Rattle.chw_terms.specs.Constructors.{Constructor}
use Rattle.chw_terms.specs.declared.scene.Mode.TheVariants.{C}
use Rattle.chw_terms.specs.TermTree.{TermTree, con}
use Rattle.chw_terms.specs.TermView.{applied}
use Rattle.chw_typing.specs.Given.{types_then}
use Rattle.normal_forms.specs.Circuits.{IsCircuitSide, of_constructor}
use Rattle.rewriting.specs.Named.{IsNamed}
use Rattle.rewriting.specs.Origins.{Origins, setting_at}
use Rattle.rewriting.specs.SceneLaws.{SameKeepsNamed}
use Rattle.rewriting.specs.Spots.{Spot}
use Rattle.rest_places.specs.Rest.{IsRestPlace}
use Rattle.rest_places.specs.Spines.{ConGiven}
use Rattle.ended_laws.proofs.CircuitCalls.{circuits_have_lets}
use Rattle.ended_laws.proofs.Fields.{fields_are_variables, as_many_names}
use Rattle.ended_laws.proofs.PrimSides.{names_of}

pub circuit_con : SameKeepsNamed → (o : Origins) (at : Spot) (c : ℕ) (it : Constructor) (types : List TypeTree) (es : List TermTree) (t : TypeTree) → at.mode ≡ C → ConGiven (setting_at o) at.vars c it types es t → IsRestPlace o at (applied (con c) (types_then types es)) t → IsPort o.program.datas t → IsCircuitSide o (applied (con c) (types_then types es))
circuit_con kept o at c it types es t k given p port =
    let named = subst (λ m. IsNamed o.program.datas m t) (sym k) port in
    let names = names_of es (fields_are_variables kept o at c it types es t (circuits_have_lets at k) given p named) in
    subst (λ es. IsCircuitSide o (applied (con c) (types_then types es))) (sym names.1)
    (of_constructor c types names.0 given.is (as_many_names it types es names.0 given.on_types given.on_terms names.1))
