-- A typed constant of a type with a width is a value of the type, and so has bits.
use Rattle.std.specs.Prelude.{◌-◌}
use Rattle.std.proofs.Common.{◌≡◌, ◌≤◌, ℕ, suc, Bool, List, [], ◌∷◌, ◌++◌, length, map, refl, sym, ap, ◌∙◌, subst, arith}
use Rattle.std.proofs.lemmas.List.{append-nil}
use Rattle.chw_base.specs.declared.limits.TheConstants.{DATA_BITS, VECTOR_LENGTH}
use Rattle.chw_types.specs.Arguments.{arguments, list_of}
use Rattle.chw_types.specs.declared.declarations.Data.{Data}
use Rattle.chw_types.specs.declared.kind.Scalar.{Scalar}
use Rattle.chw_types.specs.Kinds.{kind_data}
use Rattle.chw_types.specs.SamePromises.{SameValues, natural_value}
use Rattle.chw_types.specs.SameTypes.{SameTypes}
use Rattle.chw_types.specs.TypeMoves.{Substitution, sub}
use Rattle.chw_types.specs.TypeTree.{TypeTree, TypeTrees, nat_lit, scalar, vector, data_of}
use Rattle.chw_types.specs.TypeView.{trees_of}
use Rattle.type_laws.specs.SameKept.{FieldsKeepSame}
use Rattle.chw_terms.specs.TermTree.{TermTree, con, lit}
use Rattle.chw_terms.specs.TermView.{terms_of}
use Rattle.chw_typing.specs.Given.{types_then, AreGiven}
use Rattle.chw_typing.specs.Programs.{IsSound}
use Rattle.chw_typing.specs.Scopes.{Setting, AreTermTypes}
use Rattle.chw_typing.specs.Typing.{HasType, HasTypeUpTo, h_lit, AllHave, none_have, have_and, count}
use Rattle.chw_layout.specs.Datum.{Datum, word, built, elements, Datums, no_data, datum_and}
use Rattle.chw_layout.specs.Encodes.{IsValueOf, scalar_value, vector_value, data_value, AreElements, no_elements, element_and, AreFields, no_fields, field_and, first_constructor, count_of}
use Rattle.chw_layout.specs.EncodingPromises.{ValueIsEncoded}
use Rattle.chw_layout.specs.Measured.{closed_value, fits, MeasuredFields, HasWidth}
use Rattle.rewriting.specs.Origins.{Origins, setting_at}
use Rattle.normal_forms.specs.Circuits.{IsConstant, constant_literal, constant_constructor, constant_vector, AreConstants, no_constants, constant_and, content_type}
use Rattle.net_built.specs.Memories.{Denotes, denotes_word, denotes_built, denotes_elements, DenoteEach, denote_none, denote_and, EncodeEach}
use Rattle.net_ready.specs.Ready.{HasSomeBits, HasSomeWords}
use Rattle.net_grounds.specs.Facts.{Facts}
use Rattle.net_grounds.specs.Kinds.{AllLike}
use Rattle.net_means.proofs.CircuitBits.Constants.{listed, vector_typed}
use Rattle.net_means.proofs.CircuitBits.Heads.{head_then, operands_after}
use Rattle.net_means.proofs.Lists.{same_some}
use Rattle.net_means.proofs.NetFits.SimpleSides.{vector_within}
use Rattle.net_means.proofs.SideBits.Heads.{same_counts, wide_asks}
use Rattle.net_means.proofs.WordRows.{scalar_within}

-- a constant that is a value of the type
pub record Denoted (datas : List Data) (a : TypeTree) (e : TermTree) : Type 0 where
  pub value : Datum
  pub denotes : Denotes e value
  pub is_value : IsValueOf datas a value

literal_typed : {s : Setting} {vars : List TypeTree} {r : Scalar} {b : List Bool} {u : TypeTree} → HasType s [] vars (lit r b) u → u ≡ scalar r (nat_lit (length b))
literal_typed (h_lit l) = refl

-- a number that is the same as a natural of a type with a width is what the natural means
number_meant : Facts → (values : SameValues) (n : ℕ) (m : TypeTree) → closed_value m ≤ VECTOR_LENGTH → SameTypes (nat_lit n) m → n ≡ closed_value m
unfolding natural_value
number_meant facts values n m small same =
    let means : closed_value (nat_lit n) ≡ closed_value m = facts.same_layout.same_number values same in
    omega (arith, means, small)

module _ (facts : Facts) (values : SameValues) (keep : FieldsKeepSame) (o : Origins) (sound : IsSound (setting_at o)) (vars : List TypeTree) (scoped : AreTermTypes (setting_at o) [] vars) where
  mutual
    pub constant_denotes : {e : TermTree} → IsConstant o.program.datas e → (a : TypeTree) (w : ℕ) → HasWidth o.program.datas a w → HasTypeUpTo (setting_at o) [] vars e a → Denoted o.program.datas a e
    constant_denotes (constant_literal {s = r} {bits = b}) a w wide typed =
        let datas : List Data = o.program.datas in
        let at = facts.same.as_scalar (facts.same.same_turned (subst (SameTypes a) (literal_typed typed.has) typed.same)) in
        let has : HasWidth datas (scalar r at.0) w = subst (λ t. HasWidth datas t w) at.1 wide in
        let within = scalar_within facts has in
        let size : length b ≡ closed_value at.0 = number_meant facts values (length b) at.0 (omega (arith, within)) at.2 in
        record { value = word b; denotes = denotes_word; is_value = subst (λ t. IsValueOf datas t (word b)) (sym at.1) (scalar_value size) }
    constant_denotes (constant_constructor c types es {it = it} at many all) a w wide typed =
        let s : Setting = setting_at o in
        let datas : List Data = o.program.datas in
        let u : TypeTree = typed.type in
        let whole = facts.terms.con_takes s [] vars c it (types_then types es) u sound scoped at typed.has (wide_asks facts wide typed.same) in
        let are : types_then types es ≡ types_then whole.0.types whole.0.es =
        whole.0.are ∙ ap (λ more. types_then whole.0.types whole.0.es ++ more) whole.1 ∙ append-nil (types_then whole.0.types whole.0.es) in
        let counts = same_counts types whole.0.types es whole.0.es are in
        let on_types : length types ≡ length it.it.params = counts.0 ∙ whole.0.on_types in
        let on_terms : length es ≡ length it.decl.fields = counts.1 ∙ whole.0.on_terms in
        let given = facts.terms.con_at_arguments s [] vars c it types es u sound scoped at on_types on_terms typed.has in
        let ts : TypeTrees = trees_of types in
        let is = facts.same.as_data (facts.same.same_through given.2 (facts.same.same_turned typed.same)) in
        let us : TypeTrees = is.0 in
        let has : HasWidth datas (data_of it.of us) w = subst (λ t. HasWidth datas t w) is.1 wide in
        let place = facts.constructors.place_of datas c it at in
        let like : AllLike s (arguments ts) (arguments us) it.decl.fields =
        facts.kinds.con_like s (arguments ts) (arguments us) it.it.cons (c - first_constructor datas it.of) it.decl place.in_cons
        (facts.kinds.fields_like s sound keep it.of it.it ts us it.it.kind place.in_datas (kind_data place.in_datas given.0) is.2) in
        let within = facts.widths.whole_width o.program c it.of it us w at refl has in
        let parts = fields_denote all it.decl.fields (arguments ts) (arguments us) within.s like given.1 within.fields within.small in
        let of = facts.measures.data_measured has in
        let same : of.it ≡ it.it = same_some of.known place.in_datas in
        let as_many : length (list_of us) ≡ length it.it.params = of.as_many ∙ ap (λ (x : Data). length x.params) same in
        let value : IsValueOf datas (data_of it.of us) (built c parts.0) = data_value (c - first_constructor datas it.of) it.it it.decl {vs = parts.0} place.in_datas as_many place.number place.in_cons parts.2 in
        record {
          value = built c parts.0;
          denotes = denotes_built {ds = parts.0} (head_then (con c) types es) (subst (λ es. DenoteEach es parts.0) (sym (operands_after (con c) types es)) parts.1);
          is_value = subst (λ t. IsValueOf datas t (built c parts.0)) (sym is.1) value;
        }
    constant_denotes (constant_vector t es all) a w wide typed =
        let datas : List Data = o.program.datas in
        let of = vector_typed es typed.has in
        let at = facts.same.as_vector (facts.same.same_turned (subst (SameTypes a) of.0 typed.same)) in
        let has : HasWidth datas (vector at.0 at.1) w = subst (λ t. HasWidth datas t w) at.2 wide in
        let one = facts.widths.element_width has in
        let parts = elements_denote all t at.1 one.a at.4 of.1 one.element in
        let size : count_of parts.0 ≡ closed_value at.0 = parts.3 ∙ number_meant facts values (count (terms_of es)) at.0 (vector_within facts has) at.3 in
        record {
          value = elements parts.0;
          denotes = denotes_elements (subst (λ es. DenoteEach es parts.0) (sym (listed es)) parts.1);
          is_value = subst (λ t. IsValueOf datas t (elements parts.0)) (sym at.2) (vector_value size parts.2);
        }

    fields_denote : {es : List TermTree} → AreConstants o.program.datas es → (fs : List TypeTree) (σ τ : Substitution) (n : ℕ) → AllLike (setting_at o) σ τ fs → AreGiven (setting_at o) [] vars (map (λ f. sub f σ) fs) es → MeasuredFields o.program.datas fs τ (fits n) → n ≤ DATA_BITS
        → (ds : Datums) × DenoteEach es ds × AreFields o.program.datas fs τ ds
    fields_denote no_constants [] σ τ n like given measured small = (no_data, denote_none, no_fields)
    fields_denote no_constants (f ∷ fs) σ τ n like given measured small = absurd given
    fields_denote (constant_and one all) [] σ τ n like given measured small = absurd given
    fields_denote (constant_and one all) (f ∷ fs) σ τ n like given measured small =
        let at = facts.widths.field_width small measured in
        let sum = at.is in
        let typed : HasTypeUpTo (setting_at o) [] vars _ (sub f τ) = record { type = given.0.type; has = given.0.has; same = facts.same.same_through (facts.same.same_turned like.0.same) given.0.same } in
        let first = constant_denotes one (sub f τ) at.a at.first typed in
        let rest = fields_denote all fs σ τ at.b like.1 given.1 at.rest (omega (arith, small, sum)) in
        (datum_and first.value rest.0, denote_and first.denotes rest.1, field_and first.is_value rest.2)

    elements_denote : {es : List TermTree} → AreConstants o.program.datas es → (u v : TypeTree) (w : ℕ) → SameTypes u v → AllHave (setting_at o) [] vars u (terms_of es) → HasWidth o.program.datas v w
        → (ds : Datums) × DenoteEach es ds × AreElements o.program.datas v ds × (count_of ds ≡ count (terms_of es))
    elements_denote no_constants u v w same none_have wide = (no_data, denote_none, no_elements, refl)
    elements_denote (constant_and one all) u v w same (have_and {u = c} typed equal more) wide =
        let first = constant_denotes one v w wide (record { type = c; has = typed; same = facts.same.same_through (facts.same.same_turned same) equal }) in
        let rest = elements_denote all u v w same more wide in
        (datum_and first.value rest.0, denote_and first.denotes rest.1, element_and first.is_value rest.2, ap suc rest.3)

-- the elements of a vector's value
elements_of : {datas : List Data} {n a : TypeTree} {v : Datum} → IsValueOf datas (vector n a) v → (ds : Datums) × (v ≡ elements ds) × AreElements datas a ds
elements_of (vector_value {vs = vs} size each) = (vs, refl, each)

-- each value of a type with a width has bits
each_encoded : ValueIsEncoded → (datas : List Data) (a : TypeTree) (w : ℕ) (ds : Datums) → HasWidth datas a w → AreElements datas a ds → (words : List (List Bool)) × EncodeEach datas a ds words
each_encoded encoded datas a w no_data wide each = ([], tt)
each_encoded encoded datas a w (datum_and d ds) wide (element_and one more) =
    let first = encoded datas a d w wide one in
    let rest = each_encoded encoded datas a w ds wide more in
    (first.0 ∷ rest.0, (first.1, rest.1))

module _ (facts : Facts) (values : SameValues) (keep : FieldsKeepSame) (encoded : ValueIsEncoded) (o : Origins) (sound : IsSound (setting_at o)) (vars : List TypeTree) (scoped : AreTermTypes (setting_at o) [] vars) where
  pub constant_bits : {e : TermTree} → IsConstant o.program.datas e → (a : TypeTree) (w : ℕ) → HasWidth o.program.datas a w → HasTypeUpTo (setting_at o) [] vars e a → HasSomeBits o.program.datas a e
  constant_bits constant a w wide typed =
      let d = constant_denotes facts values keep o sound vars scoped constant a w wide typed in
      let bits = encoded o.program.datas a d.value w wide d.is_value in
      (bits.0, record { value = d.value; denotes = d.denotes; encodes = bits.1 })

  -- a content of words of a type with a width
  pub constant_words : {e : TermTree} → IsConstant o.program.datas e → (n a : TypeTree) (w : ℕ) → HasWidth o.program.datas (content_type n a) w → HasTypeUpTo (setting_at o) [] vars e (content_type n a) → HasSomeWords o.program.datas a e
  constant_words {e} constant n a w wide typed =
      let d = constant_denotes facts values keep o sound vars scoped constant (content_type n a) w wide typed in
      let parts = elements_of d.is_value in
      let one = facts.widths.element_width wide in
      let words = each_encoded encoded o.program.datas a one.a parts.0 one.element parts.2 in
      (words.0, record { values = parts.0; denotes = subst (Denotes e) parts.1 d.denotes; encode = words.1 })
