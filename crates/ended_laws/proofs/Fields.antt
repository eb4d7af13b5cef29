-- At rest, where values or circuits are built, the fields of a constructor of a named type are variables.
use Rattle.std.proofs.Common.{◌≡◌, ◌+◌, sym, ap, subst, ℕ, List, [], length, map, arith, Some}
use Rattle.std.proofs.lemmas.List.{length-map}
use Rattle.std.specs.List.{slice_get}
use Rattle.chw_types.specs.Arguments.{arguments}
use Rattle.chw_types.specs.declared.declarations.Data.{Data}
use Rattle.chw_types.specs.TypeMoves.{sub}
use Rattle.chw_types.specs.TypeTree.{TypeTree, TypeTrees, data_of}
use Rattle.chw_types.specs.TypeView.{trees_of}
use Rattle.chw_types.proofs.SameLaws.{same_turned}
use Rattle.chw_terms.specs.Constructors.{Constructor}
use Rattle.chw_terms.specs.References.{IsField}
use Rattle.chw_terms.specs.declared.scene.Mode.{Mode}
use Rattle.chw_terms.specs.declared.scene.Mode.TheVariants.{V, C, HV, HC, K}
use Rattle.chw_terms.specs.TermTree.{TermTree, var, con}
use Rattle.chw_terms.specs.TermView.{applied}
use Rattle.chw_typing.specs.Given.{types_then}
use Rattle.chw_typing.specs.HeadTypes.{con_type, fields_at}
use Rattle.chw_typing.specs.Typing.{HasTypeUpTo}
use Rattle.chw_typing.proofs.FieldKinds.{field_kind}
use Rattle.chw_typing.proofs.Heads.{is_constructor}
use Rattle.chw_typing.proofs.Kinded.{type_kinded}
use Rattle.chw_typing.proofs.Lists.{found_before_map}
use Rattle.chw_typing.proofs.NamedParts.{fields_ports, fields_representable}
use Rattle.rewriting.specs.Named.{IsNamed}
use Rattle.rewriting.specs.Operands.{of_con}
use Rattle.rewriting.specs.Origins.{Origins, setting_at}
use Rattle.rewriting.specs.SceneLaws.{SameKeepsNamed}
use Rattle.rewriting.specs.Shapes.{IsVariable}
use Rattle.rewriting.specs.Spots.{Spot, HasLets, asked_for}
use Rattle.rest_places.specs.Rest.{IsRestPlace}
use Rattle.rest_places.specs.Spines.{ConGiven}
use Rattle.rest_places.proofs.Constants.{given_at, term_behind, arguments_many}
use Rattle.rest_places.proofs.Operands.{operands_are_variables}
use Rattle.rest_places.proofs.Spines.{con_arity}

field_named : (datas : List Data) (m : Mode) (d : ℕ) (ts : TypeTrees) (it : Data) (f : TypeTree) → slice_get datas d ≡ Some it → IsField it f → IsNamed datas m (data_of d ts) → IsNamed datas m (sub f (arguments ts))
field_named datas V d ts it f is of n = fields_representable it f is of n
field_named datas HV d ts it f is of n = fields_representable it f is of n
field_named datas C d ts it f is of n = fields_ports it f is of n
field_named datas HC d ts it f is of n = fields_ports it f is of n
field_named datas K d ts it f is of n = absurd n

pub fields_are_variables : SameKeepsNamed → (o : Origins) (at : Spot) (c : ℕ) (it : Constructor) (types : List TypeTree) (es : List TermTree) (t : TypeTree) → HasLets at.mode → ConGiven (setting_at o) at.vars c it types es t → IsRestPlace o at (applied (con c) (types_then types es)) t → IsNamed o.program.datas at.mode t
    → (i : ℕ) (a : TermTree) → slice_get es i ≡ Some a → IsVariable a
fields_are_variables kept o at c it types es t lets given p n i a h =
    let s = setting_at o in
    let own = is_constructor o.program.datas c it given.is in
    let kinded = type_kinded p.has p.place.sound p.place.vars in
    let whole : IsNamed o.program.datas at.mode (data_of it.of (trees_of types)) = kept s at.mode t (data_of it.of (trees_of types)) kinded.kind p.place.sound kinded.has (same_turned given.gives) n in
    let arity = con_arity it in
    let on_types = given.on_types in
    let on_terms = given.on_terms in
    let many : length (types_then types es) ≡ asked_for (con_type it) = (let all = arguments_many types es in omega (arith, all, arity, on_types, on_terms)) in
    let there = given_at (fields_at it (trees_of types)) es i a given.fields h in
    let field = found_before_map (λ f. sub f (arguments (trees_of types))) it.decl.fields i there.type there.there in
    let of : IsField it.it field.0 = record { con = own.place; of = it.decl; is_con = own.decl; at = i; is_field = field.1 } in
    let kind = field_kind s p.place.sound it.of it.it (trees_of types) field.0 own.data_type of given.kinds in
    let up = subst (HasTypeUpTo s [] at.vars a) (sym field.2) there.given in
    operands_are_variables o at (applied (con c) (types_then types es)) [] t _ a up.type p
    (of_con c (types_then types es) (length types + i) lets given.is many (term_behind types es i a h)) up.has
    (kept s at.mode (sub field.0 (arguments (trees_of types))) up.type kind.0 p.place.sound kind.2 up.same (field_named o.program.datas at.mode it.of (trees_of types) it.it field.0 own.data_type of whole))

-- with names for its fields a constructor has as many arguments as its type asks for
pub as_many_names : (it : Constructor) (types : List TypeTree) (es : List TermTree) (xs : List ℕ) → length types ≡ length it.it.params → length es ≡ length it.decl.fields → es ≡ map (λ x. var x) xs → length types + length xs ≡ asked_for (con_type it)
as_many_names it types es xs on_types on_terms are =
    let arity = con_arity it in
    let same = length-map xs (λ x. var x) in
    let many = ap length are in
    omega (arith, arity, on_types, on_terms, same, many)
