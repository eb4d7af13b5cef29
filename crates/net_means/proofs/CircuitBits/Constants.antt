-- Constants show their bits.
use Rattle.std.specs.Prelude.{slice_get, ◌-◌}
use Rattle.std.proofs.Common.{◌≡◌, ◌≤◌, ℕ, suc, Bool, List, [], ◌∷◌, ◌++◌, length, map, Some, refl, sym, ap, ◌∙◌, subst, arith}
use Rattle.std.proofs.lemmas.List.{append-nil}
use Rattle.chw_base.specs.declared.limits.TheConstants.{DATA_BITS}
use Rattle.chw_bits.specs.Bits.{bits_of}
use Rattle.chw_types.specs.Arguments.{arguments}
use Rattle.chw_types.specs.declared.declarations.ConDecl.{ConDecl}
use Rattle.chw_types.specs.declared.declarations.Data.{Data}
use Rattle.chw_types.specs.declared.kind.Scalar.{Scalar}
use Rattle.chw_types.specs.Kinds.{kind_data}
use Rattle.chw_types.specs.SamePromises.{SameValues}
use Rattle.chw_types.specs.SameTypes.{SameTypes}
use Rattle.chw_types.specs.TypeMoves.{Substitution, sub}
use Rattle.chw_types.specs.TypeTree.{TypeTree, TypeTrees, nat_lit, scalar, vector, data_of}
use Rattle.chw_types.specs.TypeView.{trees_of}
use Rattle.type_laws.specs.SameKept.{FieldsKeepSame}
use Rattle.chw_terms.specs.Constructors.{Constructor, con_at}
use Rattle.chw_terms.specs.TermTree.{TermTree, con, lit, vec_lit}
use Rattle.chw_terms.specs.TermView.{applied, terms_of}
use Rattle.chw_typing.specs.Programs.{IsSound}
use Rattle.chw_typing.specs.Scopes.{Setting, AreTermTypes}
use Rattle.chw_typing.specs.Typing.{HasType, HasTypeUpTo, h_lit, h_vec, AllHave, none_have, have_and, count}
use Rattle.chw_typing.specs.Given.{types_then, AreGiven}
use Rattle.rewriting.specs.Origins.{Origins, setting_at}
use Rattle.normal_forms.specs.Circuits.{IsConstant, constant_literal, constant_constructor, constant_vector, AreConstants, no_constants, constant_and}
use Rattle.chw_layout.specs.Datum.{Datum, word, built, elements, Datums}
use Rattle.chw_layout.specs.Encodes.{Encodes, scalar_bits, vector_bits, data_bits, EncodesElements, no_element_bits, element_bits, EncodesFields, no_field_bits, field_bits, first_constructor, filled, count_of as data_count}
use Rattle.chw_layout.specs.Measured.{closed_value, fits, tag_width, MeasuredFields, HasWidth}
use Rattle.chw_meaning.specs.Values.{History, closed, Thunks, count_of, closed_all}
use Rattle.carrying.specs.Carrying.{tag_of, Shows, CarryEach, carry_none, carry_each}
use Rattle.carrying.specs.DataLaws.{CarryAll, carry_nothing, carry_next}
use Rattle.carrying.specs.TermLaws.{each_closed}
use Rattle.net_built.specs.Memories.{Denotes, denotes_word, denotes_built, denotes_elements, DenoteEach, denote_none, denote_and}
use Rattle.net_built.specs.Terms.{head_of, operands_of, list_of}
use Rattle.net_grounds.specs.Facts.{Facts}
use Rattle.net_grounds.specs.Kinds.{AllLike}
use Rattle.net_means.proofs.Lists.{same_some}
use Rattle.net_means.proofs.SideBits.Heads.{same_counts, wide_asks}
use Rattle.net_means.proofs.CircuitBits.Heads.{head_then, operands_after}

-- what a constant denotes
pub word_denoted : {s : Scalar} {b : List Bool} {v : Datum} → Denotes (lit s b) v → v ≡ word b
word_denoted denotes_word = refl
word_denoted (denotes_built h all) = absurd cc

pub built_denoted : {e : TermTree} {c : ℕ} {v : Datum} → Denotes e v → head_of e ≡ con c → (ds : Datums) × (v ≡ built c ds) × DenoteEach (operands_of e) ds
built_denoted denotes_word k = absurd cc
built_denoted {c = c} (denotes_built {c = d} {ds = ds} h all) k =
    let both : con d ≡ con c = sym h ∙ k in
    let one : d ≡ c = cc in
    (ds, ap (λ c. built c ds) one, all)
built_denoted (denotes_elements all) k = absurd cc

pub vector_denoted : {t : TypeTree} (es : List TermTree) {v : Datum} → Denotes (vec_lit t (terms_of es)) v → (ds : Datums) × (v ≡ elements ds) × DenoteEach (list_of (terms_of es)) ds
vector_denoted es (denotes_built h all) = absurd cc
vector_denoted es (denotes_elements {ds = ds} all) = (ds, refl, all)

pub listed : (es : List TermTree) → list_of (terms_of es) ≡ es
listed [] = refl
listed (e ∷ es) = ap (λ l. e ∷ l) (listed es)

-- how encodings of words, of vectors and of data are made
word_encoded : {datas : List Data} {s : Scalar} {m : TypeTree} {b bits : List Bool} → Encodes datas (scalar s m) (word b) bits → (b ≡ bits) × (length b ≡ closed_value m)
word_encoded (scalar_bits e) = (refl, e)

vector_encoded : {datas : List Data} {n t : TypeTree} {ds : Datums} {bits : List Bool} → Encodes datas (vector n t) (elements ds) bits → (data_count ds ≡ closed_value n) × EncodesElements datas t ds bits
vector_encoded (vector_bits e all) = (e, all)

record DataEncoded (datas : List Data) (c : ℕ) (it : Constructor) (us : TypeTrees) (ds : Datums) (w : ℕ) (bits : List Bool) : Type 0 where
  behind : List Bool
  fields : EncodesFields datas it.decl.fields (arguments us) ds behind
  is : filled w (tag_of datas c it ++ behind) ≡ bits

data_encoded : Facts → (datas : List Data) (c w : ℕ) (it : Constructor) (us : TypeTrees) (ds : Datums) {bits : List Bool} → con_at datas c ≡ Some it → HasWidth datas (data_of it.of us) w → Encodes datas (data_of it.of us) (built c ds) bits → DataEncoded datas c it us ds w bits
data_encoded facts datas c w it us ds at wide (data_bits i width other k behind known number held fields has) =
    let place = facts.constructors.place_of datas c it at in
    let same : other ≡ it.it = same_some known place.in_datas in
    let first : ℕ = first_constructor datas it.of in
    let index : i ≡ c - first = omega (arith, number) in
    let con : k ≡ it.decl = same_some held ((λ j. slice_get ((same j).cons) (index j)) ∙ place.in_cons) in
    record {
      behind = behind;
      fields = subst (λ (k : ConDecl). EncodesFields datas k.fields (arguments us) ds behind) con fields;
      is = λ j. filled (facts.widths.width_once wide has j) (bits_of (tag_width (length ((sym same j).cons))) (sym index j) ++ behind);
    }

literal_typed : {s : Setting} {vars : List TypeTree} {r : Scalar} {b : List Bool} {u : TypeTree} → HasType s [] vars (lit r b) u → u ≡ scalar r (nat_lit (length b))
literal_typed (h_lit l) = refl

pub vector_typed : {s : Setting} {vars : List TypeTree} {u t : TypeTree} (es : List TermTree) → HasType s [] vars (vec_lit u (terms_of es)) t → (t ≡ vector (nat_lit (count (terms_of es))) u) × AllHave s [] vars u (terms_of es)
vector_typed es (h_vec is all) = (refl, all)

-- as many elements as values
as_many : {es : List TermTree} {ds : Datums} (γ : Thunks) (δ : TypeTrees) → DenoteEach es ds → count_of (closed_all (terms_of es) γ δ) ≡ data_count ds
as_many γ δ denote_none = refl
as_many γ δ (denote_and d more) = ap suc (as_many γ δ more)

module _ (facts : Facts) (o : Origins) (vars : List TypeTree) (γ : Thunks) (δ : TypeTrees) (values : SameValues) (keep : FieldsKeepSame) (sound : IsSound (setting_at o)) (scoped : AreTermTypes (setting_at o) [] vars) where
  mutual
    -- a constant of a type with a width carries its bits
    pub constant_shows : {e : TermTree} → IsConstant o.program.datas e → (a : TypeTree) (w : ℕ) (v : Datum) (bits : List Bool) → Denotes e v → Encodes o.program.datas a v bits → HasWidth o.program.datas a w → HasTypeUpTo (setting_at o) [] vars e a → (h : History) → Shows o.program a (closed e γ δ) h bits
    constant_shows (constant_literal {s = r} {bits = b}) a w v bits d encodes wide typed h =
        let at = facts.same.as_scalar (facts.same.same_turned (subst (SameTypes a) (literal_typed typed.has) typed.same)) in
        let encoded = word_encoded (subst (λ t. Encodes o.program.datas t (word b) bits) at.1 (subst (λ v. Encodes o.program.datas a v bits) (word_denoted d) encodes)) in
        let has : HasWidth o.program.datas (scalar r at.0) w = subst (λ t. HasWidth o.program.datas t w) at.1 wide in
        let size : w ≡ length b = facts.widths.scalar_width has ∙ sym encoded.1 in
        let shown = facts.shows.literal_carries o.program r at.0 b γ δ h (subst (HasWidth o.program.datas (scalar r at.0)) size has) in
        subst (λ t. Shows o.program t (closed (lit r b) γ δ) h bits) (sym at.1) (subst (λ x. Shows o.program (scalar r at.0) (closed (lit r b) γ δ) h x) encoded.0 shown)
    constant_shows (constant_constructor c types es {it = it} at count all) a w v bits d encodes wide typed h =
        let s : Setting = setting_at o in
        let datas : List Data = o.program.datas in
        let u : TypeTree = typed.type in
        let whole = facts.terms.con_takes s [] vars c it (types_then types es) u sound scoped at typed.has (wide_asks facts wide typed.same) in
        let are : types_then types es ≡ types_then whole.0.types whole.0.es =
        whole.0.are ∙ ap (λ more. types_then whole.0.types whole.0.es ++ more) whole.1 ∙ append-nil (types_then whole.0.types whole.0.es) in
        let counts = same_counts types whole.0.types es whole.0.es are in
        let on_types : length types ≡ length it.it.params = counts.0 ∙ whole.0.on_types in
        let on_terms : length es ≡ length it.decl.fields = counts.1 ∙ whole.0.on_terms in
        let given = facts.terms.con_at_arguments s [] vars c it types es u sound scoped at on_types on_terms typed.has in
        let ts : TypeTrees = trees_of types in
        let is = facts.same.as_data (facts.same.same_through given.2 (facts.same.same_turned typed.same)) in
        let us : TypeTrees = is.0 in
        let has : HasWidth datas (data_of it.of us) w = subst (λ t. HasWidth datas t w) is.1 wide in
        let place = facts.constructors.is_constructor datas c it at in
        let like : AllLike s (arguments ts) (arguments us) it.decl.fields =
        facts.kinds.con_like s (arguments ts) (arguments us) it.it.cons place.place it.decl place.decl
        (facts.kinds.fields_like s sound keep it.of it.it ts us it.it.kind place.data_type (kind_data place.data_type given.0) is.2) in
        let meant = built_denoted d (head_then (con c) types es) in
        let each : DenoteEach es meant.0 = subst (λ es. DenoteEach es meant.0) (operands_after (con c) types es) meant.2 in
        let encoded = data_encoded facts datas c w it us meant.0 at has (subst (λ t. Encodes datas t (built c meant.0) bits) is.1 (subst (λ v. Encodes datas a v bits) meant.1 encodes)) in
        let within = facts.widths.whole_width o.program c it.of it us w at refl has in
        let carry = fields_carry all it.decl.fields (arguments ts) (arguments us) meant.0 encoded.behind within.s like given.1 each encoded.fields within.fields within.small in
        let shown = facts.data_bits.constructor_carries o.program c it us w types es γ δ encoded.behind at has on_types carry h in
        subst (λ t. Shows o.program t (closed (applied (con c) (types_then types es)) γ δ) h bits) (sym is.1)
        (subst (λ b. Shows o.program (data_of it.of us) (closed (applied (con c) (types_then types es)) γ δ) h b) encoded.is shown)
    constant_shows (constant_vector t es all) a w v bits d encodes wide typed h =
        let datas : List Data = o.program.datas in
        let of = vector_typed es typed.has in
        let at = facts.same.as_vector (facts.same.same_turned (subst (SameTypes a) of.0 typed.same)) in
        let has : HasWidth datas (vector at.0 at.1) w = subst (λ t. HasWidth datas t w) at.2 wide in
        let meant = vector_denoted es d in
        let each : DenoteEach es meant.0 = subst (λ es. DenoteEach es meant.0) (listed es) meant.2 in
        let encoded = vector_encoded (subst (λ t. Encodes datas t (elements meant.0) bits) at.2 (subst (λ v. Encodes datas a v bits) meant.1 encodes)) in
        let one = facts.widths.element_width has in
        let carry = elements_carry all t at.1 one.a meant.0 bits at.4 of.1 each encoded.1 one.element in
        let shown = facts.vectors.vector_carries o.program at.0 at.1 t w (terms_of es) γ δ bits has (as_many γ δ each ∙ encoded.0) carry h in
        subst (λ t'. Shows o.program t' (closed (vec_lit t (terms_of es)) γ δ) h bits) (sym at.2) shown

    fields_carry : {es : List TermTree} → AreConstants o.program.datas es → (fs : List TypeTree) (σ τ : Substitution) (ds : Datums) (bits : List Bool) (n : ℕ) → AllLike (setting_at o) σ τ fs → AreGiven (setting_at o) [] vars (map (λ f. sub f σ) fs) es → DenoteEach es ds → EncodesFields o.program.datas fs τ ds bits → MeasuredFields o.program.datas fs τ (fits n) → n ≤ DATA_BITS
        → CarryAll o.program (map (λ f. sub f τ) fs) (each_closed es γ δ) bits
    fields_carry no_constants [] σ τ ds bits n like given denote_none no_field_bits measured small = carry_nothing
    fields_carry no_constants (f ∷ fs) σ τ ds bits n like given each encodes measured small = absurd given
    fields_carry (constant_and one all) [] σ τ ds bits n like given each encodes measured small = absurd given
    fields_carry (constant_and one all) (f ∷ fs) σ τ ds bits n like given (denote_and {d = d} denotes each) (field_bits {bits = b} {more = more} encodes rest) measured small =
        let at = facts.widths.field_width small measured in
        let sum = at.is in
        let typed : HasTypeUpTo (setting_at o) [] vars _ (sub f τ) = record { type = given.0.type; has = given.0.has; same = facts.same.same_through (facts.same.same_turned like.0.same) given.0.same } in
        carry_next (λ h. constant_shows one (sub f τ) at.a d b denotes encodes at.first typed h)
        (fields_carry all fs σ τ _ more at.b like.1 given.1 each rest at.rest (omega (arith, small, sum)))

    elements_carry : {es : List TermTree} → AreConstants o.program.datas es → (u v : TypeTree) (w : ℕ) (ds : Datums) (bits : List Bool) → SameTypes u v → AllHave (setting_at o) [] vars u (terms_of es) → DenoteEach es ds → EncodesElements o.program.datas v ds bits → HasWidth o.program.datas v w → CarryEach o.program v (closed_all (terms_of es) γ δ) bits
    elements_carry no_constants u v w ds bits same none_have denote_none no_element_bits wide = carry_none
    elements_carry (constant_and one all) u v w ds bits same (have_and {u = c} typed equal more) (denote_and {d = d} denotes each) (element_bits {bits = b} {more = rest} encodes others) wide =
        carry_each (λ h. constant_shows one v w d b denotes encodes wide (record { type = c; has = typed; same = facts.same.same_through (facts.same.same_turned same) equal }) h)
        (elements_carry all u v w _ rest same more each others wide)
