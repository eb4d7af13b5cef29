-- Representable constants at rest are constants of the normal form.
use Rattle.std.proofs.Common.{◌≡◌, ◌<◌, ◌+◌, refl, sym, ap, subst, ℕ, suc, zero, false, List, [], ◌∷◌, length, arith, Some}
use Rattle.std.specs.List.{slice_get}
use Rattle.chw_types.specs.declared.declarations.Data.{Data}
use Rattle.chw_types.specs.declared.kind.Kind.{Kind}
use Rattle.chw_types.specs.Arguments.{arguments}
use Rattle.chw_types.specs.TypeMoves.{sub}
use Rattle.chw_types.specs.TypeTree.{TypeTree, nat_lit, scalar, vector, data_of}
use Rattle.chw_types.specs.TypeView.{trees_of}
use Rattle.chw_types.proofs.SameLaws.{same_turned}
use Rattle.type_ports.specs.Representable.{Representable}
use Rattle.chw_terms.specs.Constructors.{Constructor, con_at}
use Rattle.chw_terms.specs.References.{IsField}
use Rattle.chw_terms.specs.declared.scene.Mode.TheVariants.{V, K}
use Rattle.chw_terms.specs.TermSize.{tree_size}
use Rattle.chw_terms.specs.TermTree.{TermTree, con, lit, vec_lit, Terms, no_terms, term_and}
use Rattle.chw_terms.specs.TermView.{applied, terms_of}
use Rattle.chw_typing.specs.Given.{types_then}
use Rattle.chw_typing.specs.HeadTypes.{con_type, fields_at}
use Rattle.chw_typing.specs.Paths.{element_at}
use Rattle.chw_typing.specs.Scopes.{Setting, HasKind, IsTermType}
use Rattle.chw_typing.specs.Typing.{HasType, h_vec, HasTypeUpTo, AllHave, count}
use Rattle.chw_typing.proofs.FieldKinds.{field_kind}
use Rattle.chw_typing.proofs.Heads.{is_constructor}
use Rattle.chw_typing.proofs.Kinded.{type_kinded}
use Rattle.chw_typing.proofs.Lists.{found_before_map}
use Rattle.chw_typing.proofs.NamedParts.{element_representable, fields_representable}
use Rattle.chw_typing.proofs.Saturated.{con_at_arguments}
use Rattle.normal_forms.specs.Circuits.{IsConstant, constant_literal, constant_constructor, constant_vector, AreConstants, no_constants, constant_and}
use Rattle.rewriting.specs.Active.{Below, of_constructor, of_vector}
use Rattle.rewriting.specs.Origins.{Origins, setting_at}
use Rattle.rewriting.specs.SceneLaws.{NamedIsDecided, NamedIsTermKind, SameKeepsNamed}
use Rattle.rewriting.specs.Spots.{Spot, spot, asked_for}
use Rattle.rule_types.proofs.Operands.{element_kind}
use Rattle.rest_places.specs.Constants.{IsLiteral, IsWrittenVector, IsSaturatedCon, IsKnown, NoUnrolled}
use Rattle.rest_places.specs.Rest.{IsRestPlace}
use Rattle.rest_places.proofs.Below.{rest_below}
use Rattle.rest_places.proofs.Constants.{constants_are_known, given_at, term_behind, arguments_many}
use Rattle.rest_places.proofs.Smaller.{below_smaller}
use Rattle.rest_places.proofs.Spines.{con_arity}
use Rattle.rest_places.proofs.Steps.{retyped}

-- the elements as a list
pub elements : Terms → List TermTree
elements no_terms = []
elements (term_and e es) = e ∷ elements es

pub elements_again : (es : Terms) → terms_of (elements es) ≡ es
unfolding elements
elements_again no_terms = refl
elements_again (term_and e es) = ap (term_and e) (elements_again es)

pub each_element : (P : TermTree → Type 0) (es : Terms) → ((i : ℕ) (a : TermTree) → element_at es i ≡ Some a → P a) → (i : ℕ) (a : TermTree) → slice_get (elements es) i ≡ Some a → P a
unfolding elements
each_element P no_terms h i a is = absurd cc
each_element P (term_and e es) h zero a is = h 0 a is
each_element P (term_and e es) h (suc i) a is = each_element P es (λ j b k. h (suc j) b k) i a is

are_constants : (datas : List Data) (es : List TermTree) → ((i : ℕ) (a : TermTree) → slice_get es i ≡ Some a → IsConstant datas a) → AreConstants datas es
are_constants datas [] h = no_constants
are_constants datas (e ∷ es) h = constant_and (h 0 e refl) (are_constants datas es (λ i a k. h (suc i) a k))

pub vector_parts : {s : Setting} {vars : List TypeTree} {u v : TypeTree} {es : Terms} → HasType s [] vars (vec_lit u es) v → (v ≡ vector (nat_lit (count es)) u) × IsTermType s [] u × AllHave s [] vars u es
vector_parts (h_vec l have) = (refl, l, have)

module _ (decided : NamedIsDecided) (kind_named : NamedIsTermKind) (kept : SameKeepsNamed) (unrolled : NoUnrolled) (o : Origins) where
  abbrev StandBelow : ℕ → Type 0
  StandBelow n = (at : Spot) (e : TermTree) (t : TypeTree) → tree_size e < n → at.mode ≡ K → IsRestPlace o at e t → Representable o.program.datas t → IsConstant o.program.datas e

  -- a part, of a type that is the same as a representable one
  part_stands : (n : ℕ) → StandBelow n → (at : Spot) (e a : TermTree) (t u : TypeTree) (k : Kind) {path : List ℕ} → tree_size e < suc n → IsRestPlace o at e t → Below o at e path (spot K false at.vars) a → HasTypeUpTo (setting_at o) [] at.vars a u → HasKind (setting_at o) [] u k → Representable o.program.datas u → IsConstant o.program.datas a
  part_stands n below at e a t u k {path} small p b given kind r =
      let less = below_smaller b in
      below (spot K false at.vars) a given.type (omega (arith, small, less)) refl (retyped (rest_below decided o at (spot K false at.vars) e a t path p b).1 given.has)
      (kept (setting_at o) V u given.type k p.place.sound kind given.same r)

  literal_stands : (e : TermTree) → IsLiteral e → IsConstant o.program.datas e
  literal_stands (lit r bits) k = constant_literal
  literal_stands _ k = absurd k

  vector_stands : (n : ℕ) → StandBelow n → (at : Spot) (e : TermTree) (t : TypeTree) → tree_size e < suc n → at.mode ≡ K → IsRestPlace o at e t → Representable o.program.datas t → IsWrittenVector e → IsConstant o.program.datas e
  vector_stands n below at (vec_lit u es) t small k p r w =
      let parts = vector_parts p.has in
      let element : Representable o.program.datas u = element_representable (subst (Representable o.program.datas) parts.0 r) in
      let each : (i : ℕ) (a : TermTree) → element_at es i ≡ Some a → IsConstant o.program.datas a =
      λ i a is.
      let own = element_kind parts.2 i a is in
      part_stands n below at (vec_lit u es) a t u parts.1.kind small p (of_vector k is) (record { type = own.0; has = own.1; same = own.2 }) parts.1.has element in
      subst (λ es. IsConstant o.program.datas (vec_lit u es)) (elements_again es)
      (constant_vector u (elements es) (are_constants o.program.datas (elements es) (each_element (IsConstant o.program.datas) es each)))
  vector_stands n below at _ t small k p r w = absurd w

  constructor_stands : (n : ℕ) → StandBelow n → (at : Spot) (c : ℕ) (it : Constructor) (types : List TypeTree) (es : List TermTree) (t : TypeTree) → tree_size (applied (con c) (types_then types es)) < suc n → at.mode ≡ K → con_at o.program.datas c ≡ Some it → length types ≡ length it.it.params → length es ≡ length it.decl.fields → IsRestPlace o at (applied (con c) (types_then types es)) t → Representable o.program.datas t → IsConstant o.program.datas (applied (con c) (types_then types es))
  constructor_stands n below at c it types es t small k is l m p r =
      let s = setting_at o in
      let own = is_constructor o.program.datas c it is in
      let given = con_at_arguments s [] at.vars c it types es t p.place.sound p.place.vars is l m p.has in
      let kinded = type_kinded p.has p.place.sound p.place.vars in
      let whole : Representable o.program.datas (data_of it.of (trees_of types)) = kept s V t (data_of it.of (trees_of types)) kinded.kind p.place.sound kinded.has (same_turned given.2) r in
      let asked = con_arity it in
      let many : length (types_then types es) ≡ asked_for (con_type it) = (let all = arguments_many types es in omega (arith, all, asked, l, m)) in
      constant_constructor c types es is (omega (arith, asked, l, m))
      (are_constants o.program.datas es (λ i a h.
      let there = given_at (fields_at it (trees_of types)) es i a given.1 h in
      let field = found_before_map (λ f. sub f (arguments (trees_of types))) it.decl.fields i there.type there.there in
      let of : IsField it.it field.0 = record { con = own.place; of = it.decl; is_con = own.decl; at = i; is_field = field.1 } in
      let kind = field_kind s p.place.sound it.of it.it (trees_of types) field.0 own.data_type of given.0 in
      part_stands n below at (applied (con c) (types_then types es)) a t (sub field.0 (arguments (trees_of types))) kind.0 small p
      (of_constructor c (length types + i) (types_then types es) k is many (term_behind types es i a h))
      (subst (HasTypeUpTo s [] at.vars a) (sym field.2) there.given) kind.2
      (fields_representable it.it field.0 own.data_type of whole)))

  data_stands : (n : ℕ) → StandBelow n → (at : Spot) (e : TermTree) (t : TypeTree) → tree_size e < suc n → at.mode ≡ K → IsRestPlace o at e t → Representable o.program.datas t → IsSaturatedCon o.program.datas e → IsConstant o.program.datas e
  data_stands n below at e t small k p r known =
      subst (IsConstant o.program.datas) (sym known.term)
      (constructor_stands n below at known.con_number known.it known.types known.es t (subst (λ e. tree_size e < suc n) known.term small) k known.is known.on_types known.on_terms (subst (λ e. IsRestPlace o at e t) known.term p) r)

  stand_by_type : (n : ℕ) → StandBelow n → (at : Spot) (e : TermTree) (t : TypeTree) → tree_size e < suc n → at.mode ≡ K → IsRestPlace o at e t → Representable o.program.datas t → IsKnown o.program.datas t e → IsConstant o.program.datas e
  stand_by_type n below at e (scalar x w) small k p r known = literal_stands e known
  stand_by_type n below at e (vector m u) small k p r known = vector_stands n below at e (vector m u) small k p r known
  stand_by_type n below at e (data_of d ts) small k p r known = data_stands n below at e (data_of d ts) small k p r known
  stand_by_type n below at e _ small k p r known = elim r [ ]

  stand_below : (n : ℕ) → StandBelow n
  stand_below zero at e t small k p r = absurd (omega (arith, small))
  stand_below (suc n) at e t small k p r =
      let kinded = type_kinded p.has p.place.sound p.place.vars in
      let value = subst (HasKind (setting_at o) [] t) (kind_named (setting_at o) V t kinded.kind p.place.sound kinded.has r) kinded.has in
      stand_by_type n (stand_below n) at e t small k p r (constants_are_known decided kind_named unrolled o at e t k p value)

  -- a representable constant at rest is one of the normal form
  pub constants_stand : (at : Spot) (e : TermTree) (t : TypeTree) → at.mode ≡ K → IsRestPlace o at e t → Representable o.program.datas t → IsConstant o.program.datas e
  constants_stand at e t k p r = stand_below (suc (tree_size e)) at e t (omega arith) k p r
