-- Right sides of values that are constructors and vectors, on variables.
use Rattle.std.proofs.Common.{◌≡◌, ◌∙◌, sym, ap, subst, ℕ, List, [], Some}
use Rattle.chw_types.specs.TypeTree.{TypeTree}
use Rattle.type_ports.specs.Representable.{Representable}
use Rattle.chw_terms.specs.Constructors.{Constructor}
use Rattle.chw_terms.specs.declared.scene.Mode.{Mode}
use Rattle.chw_terms.specs.declared.scene.Mode.TheVariants.{V}
use Rattle.chw_terms.specs.TermTree.{TermTree, con, vec_lit, Terms}
use Rattle.chw_terms.specs.TermView.{applied, terms_of}
use Rattle.chw_typing.specs.Given.{types_then}
use Rattle.chw_typing.specs.Paths.{element_at}
use Rattle.chw_typing.proofs.NamedParts.{element_representable}
use Rattle.normal_forms.specs.Values.{IsSide, side_constructor, side_vector}
use Rattle.rewriting.specs.Operands.{of_vector}
use Rattle.rewriting.specs.Origins.{Origins, setting_at}
use Rattle.rewriting.specs.SceneLaws.{SameKeepsNamed}
use Rattle.rewriting.specs.Shapes.{IsVariable}
use Rattle.rewriting.specs.Spots.{Spot, HasLets}
use Rattle.rule_types.proofs.Operands.{element_kind}
use Rattle.rest_places.specs.Rest.{IsRestPlace}
use Rattle.rest_places.specs.Spines.{ConGiven}
use Rattle.rest_places.proofs.Operands.{operands_are_variables}
use Rattle.ended_laws.proofs.Fields.{fields_are_variables, as_many_names}
use Rattle.ended_laws.proofs.PrimSides.{names_of, is_named}
use Rattle.rest_places.proofs.Standing.{elements, elements_again, each_element, vector_parts}

pub values_have_lets : {m : Mode} → m ≡ V → HasLets m
values_have_lets k = subst HasLets (sym k) tt

module _ (kept : SameKeepsNamed) (o : Origins) where
  -- a constructor of a representable type
  pub con_side : (at : Spot) (c : ℕ) (it : Constructor) (types : List TypeTree) (es : List TermTree) (t : TypeTree) → at.mode ≡ V → ConGiven (setting_at o) at.vars c it types es t → IsRestPlace o at (applied (con c) (types_then types es)) t → Representable o.program.datas t → IsSide o at.vars (applied (con c) (types_then types es))
  con_side at c it types es t k given p r =
      let names = names_of es (fields_are_variables kept o at c it types es t (values_have_lets k) given p (is_named o k r)) in
      subst (λ es. IsSide o at.vars (applied (con c) (types_then types es))) (sym names.1)
      (side_constructor c types names.0 given.is (as_many_names it types es names.0 given.on_types given.on_terms names.1))

  -- a vector of a representable type
  pub vector_side : (at : Spot) (u : TypeTree) (es : Terms) (t : TypeTree) → at.mode ≡ V → IsRestPlace o at (vec_lit u es) t → Representable o.program.datas t → IsSide o at.vars (vec_lit u es)
  vector_side at u es t k p r =
      let parts = vector_parts p.has in
      let element : Representable o.program.datas u = element_representable (subst (Representable o.program.datas) parts.0 r) in
      let each : (i : ℕ) (a : TermTree) → element_at es i ≡ Some a → IsVariable a =
      λ i a is.
      let own = element_kind parts.2 i a is in
      let value = kept (setting_at o) V u own.0 parts.1.kind p.place.sound parts.1.has own.2 element in
      operands_are_variables o at (vec_lit u es) [] t _ a own.0 p (of_vector (values_have_lets k) is) own.1 (is_named o k value) in
      let names = names_of (elements es) (each_element IsVariable es each) in
      subst (λ es. IsSide o at.vars (vec_lit u es)) (ap terms_of (sym names.1) ∙ elements_again es) (side_vector u names.0)
