-- Closed types that are the same have one layout, by the derivations of layouts.
use Rattle.std.specs.Prelude.{Bool, false, replicate}
use Rattle.std.proofs.Common.{◌≡◌, ℕ, ◌+◌, ◌*◌, ◌≤◌, refl, sym, subst, ◌∙◌, List, ◌++◌, length, arith}
use Rattle.chw_bits.specs.Bits.{bits_of}
use Rattle.chw_types.specs.declared.declarations.ConDecl.{ConDecl}
use Rattle.chw_types.specs.TypeTree.{TypeTree, scalar, vector}
use Rattle.chw_types.specs.TypeMoves.{Substitution}
use Rattle.chw_types.specs.Arguments.{arguments}
use Rattle.chw_types.specs.Polynomials.{greatest, ended}
use Rattle.chw_types.specs.SamePromises.{natural_value, SameValues}
use Rattle.chw_types.specs.SameTypes.{SameTypes, same_naturals, same_sum, same_product, same_domain, same_scalar, same_vector, same_data, same_fun, same_signal, same_for_all}
use Rattle.type_laws.specs.SameKept.{FieldsKeepSame}
use Rattle.type_laws.proofs.SameForms.{as_scalar, as_vector, as_data}
use Rattle.chw_typing.specs.Scopes.{Setting}
use Rattle.chw_typing.specs.Programs.{IsSound}
use Rattle.chw_layout.specs.Datum.{Datum, word, elements, Datums}
use Rattle.chw_layout.specs.Measured.{Measure, fits, closed_value, tag_width, scalar_measure, vector_measure, Measured, measured_scalar, measured_vector, measured_data, MeasuredCons, no_cons_measured, con_measured, MeasuredFields, no_fields_measured, field_measured}
use Rattle.chw_layout.specs.Encodes.{filled, IsValueOf, scalar_value, vector_value, data_value, AreElements, no_elements, element_and, AreFields, no_fields, field_and, Encodes, scalar_bits, vector_bits, data_bits, EncodesElements, no_element_bits, element_bits, EncodesFields, no_field_bits, field_bits}
use Rattle.chw_meaning.specs.Zeros.{IsZero, zero_scalar, zero_vector, zero_data, AreZeros, no_zeros, zeros_and, AreZeroFields, no_zero_field, zero_field_and}
use Rattle.chw_typing.specs.Alike.{AreLike}
use Rattle.chw_typing.proofs.FieldsPut.{same_count, AllLike, ConsLike, con_like, fields_like}
use Rattle.chw_typing.proofs.SameNames.{element_like}

-- types that are the same have one value as naturals, whatever their variables stand for
same_value : SameValues → (ρ : ℕ → ℕ) → ((x : ℕ) → ρ x ≤ greatest) → {t u : TypeTree} → SameTypes t u → natural_value ρ t ≡ natural_value ρ u
unfolding natural_value
same_value law ρ small (same_naturals {a = a} {b = b} n m p) = law a b ρ small n m p
same_value law ρ small (same_sum h g) = λ i. ended (same_value law ρ small h i + same_value law ρ small g i)
same_value law ρ small (same_product h g) = λ i. ended (same_value law ρ small h i * same_value law ρ small g i)
same_value law ρ small same_domain = refl
same_value law ρ small (same_scalar h) = refl
same_value law ρ small (same_vector h g) = refl
same_value law ρ small (same_data h) = refl
same_value law ρ small (same_fun h g) = refl
same_value law ρ small (same_signal h g) = refl
same_value law ρ small (same_for_all h) = refl

pub same_number : SameValues → {t u : TypeTree} → SameTypes t u → closed_value t ≡ closed_value u
same_number law h = same_value law (λ x. 0) (λ x. omega arith) h

-- of the second of two vectors the parts
record VectorLike (s : Setting) (n t u : TypeTree) : Type 0 where
  count : TypeTree
  element : TypeTree
  is : u ≡ vector count element
  counts : closed_value n ≡ closed_value count
  like : AreLike s t element

module _ (s : Setting) (sound : IsSound s) (values : SameValues) (keep : FieldsKeepSame) where
  vector_like : (n t u : TypeTree) → AreLike s (vector n t) u → VectorLike s n t u
  vector_like n t u l =
      let at = as_vector l.same in
      record { count = at.0; element = at.1; is = at.2; counts = same_number values at.3; like = element_like {n = n} l.has at.4 }

  mutual
    pub measured_same : {t u : TypeTree} {m : Measure} → Measured s.datas t m → AreLike s t u → Measured s.datas u m
    measured_same {u = u} (measured_scalar {s = sort} {w = w}) l =
        let at = as_scalar l.same in
        let number = same_number values at.2 in
        subst (λ x. Measured s.datas x (scalar_measure (closed_value w))) (sym at.1)
        (subst (λ n. Measured s.datas (scalar sort at.0) (scalar_measure n)) (sym number) measured_scalar)
    measured_same {u = u} (measured_vector {n = n} {t = t} {m = m} a) l =
        let at = vector_like n t u l in
        subst (λ x. Measured s.datas x (vector_measure (closed_value n) m)) (sym at.is)
        (subst (λ k. Measured s.datas (vector at.count at.element) (vector_measure k m)) (sym at.counts) (measured_vector (measured_same a at.like)))
    measured_same {u = u} {m = m} (measured_data {d = d} {it = it} {ts = ts} known as_many a) l =
        let at = as_data l.same in
        subst (λ x. Measured s.datas x m) (sym at.1)
        (measured_data known (same_count at.2 ∙ as_many) (cons_same a (fields_like s sound keep d it ts at.0 l.kind known l.has at.2)))

    cons_same : {cs : List ConDecl} {σ τ : Substitution} {m : Measure} → MeasuredCons s.datas cs σ m → ConsLike s σ τ cs → MeasuredCons s.datas cs τ m
    cons_same no_cons_measured l = no_cons_measured
    cons_same (con_measured a b) l = con_measured (fields_same a l.0) (cons_same b l.1)

    fields_same : {fs : List TypeTree} {σ τ : Substitution} {m : Measure} → MeasuredFields s.datas fs σ m → AllLike s σ τ fs → MeasuredFields s.datas fs τ m
    fields_same no_fields_measured l = no_fields_measured
    fields_same (field_measured a b) l = field_measured (measured_same a l.0) (fields_same b l.1)

  mutual
    pub value_same : {t u : TypeTree} {v : Datum} → IsValueOf s.datas t v → AreLike s t u → IsValueOf s.datas u v
    value_same {u = u} (scalar_value {s = sort} {w = w} {bits = bits} e) l =
        let at = as_scalar l.same in
        subst (λ x. IsValueOf s.datas x (word bits)) (sym at.1) (scalar_value (e ∙ same_number values at.2))
    value_same {u = u} (vector_value {n = n} {t = t} {vs = vs} e a) l =
        let at = vector_like n t u l in
        subst (λ x. IsValueOf s.datas x (elements vs)) (sym at.is) (vector_value (e ∙ at.counts) (elements_same a at.like))
    value_same {u = u} {v = v} (data_value {d = d} i it c {ts = ts} known as_many number con a) l =
        let at = as_data l.same in
        let like = con_like s (arguments ts) (arguments at.0) it.cons i c con (fields_like s sound keep d it ts at.0 l.kind known l.has at.2) in
        subst (λ x. IsValueOf s.datas x v) (sym at.1) (data_value i it c known (same_count at.2 ∙ as_many) number con (values_same a like))

    elements_same : {t u : TypeTree} {vs : Datums} → AreElements s.datas t vs → AreLike s t u → AreElements s.datas u vs
    elements_same no_elements l = no_elements
    elements_same (element_and a b) l = element_and (value_same a l) (elements_same b l)

    values_same : {fs : List TypeTree} {σ τ : Substitution} {vs : Datums} → AreFields s.datas fs σ vs → AllLike s σ τ fs → AreFields s.datas fs τ vs
    values_same no_fields l = no_fields
    values_same (field_and a b) l = field_and (value_same a l.0) (values_same b l.1)

  mutual
    pub encoding_same : {t u : TypeTree} {v : Datum} {bits : List Bool} → Encodes s.datas t v bits → AreLike s t u → Encodes s.datas u v bits
    encoding_same {u = u} (scalar_bits {s = sort} {w = w} {bits = bits} e) l =
        let at = as_scalar l.same in
        subst (λ x. Encodes s.datas x (word bits) bits) (sym at.1) (scalar_bits (e ∙ same_number values at.2))
    encoding_same {u = u} (vector_bits {n = n} {t = t} {vs = vs} {bits = bits} e a) l =
        let at = vector_like n t u l in
        subst (λ x. Encodes s.datas x (elements vs) bits) (sym at.is) (vector_bits (e ∙ at.counts) (element_bits_same a at.like))
    encoding_same {u = u} {v = v} (data_bits {d = d} i width it c {ts = ts} bits known number con a has) l =
        let at = as_data l.same in
        let like = con_like s (arguments ts) (arguments at.0) it.cons i c con (fields_like s sound keep d it ts at.0 l.kind known l.has at.2) in
        let wide = subst (λ x. Measured s.datas x (fits width)) at.1 (measured_same has l) in
        subst (λ x. Encodes s.datas x v (filled width (bits_of (tag_width (length it.cons)) i ++ bits))) (sym at.1)
        (data_bits i width it c bits known number con (field_bits_same a like) wide)

    element_bits_same : {t u : TypeTree} {vs : Datums} {bits : List Bool} → EncodesElements s.datas t vs bits → AreLike s t u → EncodesElements s.datas u vs bits
    element_bits_same no_element_bits l = no_element_bits
    element_bits_same (element_bits a b) l = element_bits (encoding_same a l) (element_bits_same b l)

    field_bits_same : {fs : List TypeTree} {σ τ : Substitution} {vs : Datums} {bits : List Bool} → EncodesFields s.datas fs σ vs bits → AllLike s σ τ fs → EncodesFields s.datas fs τ vs bits
    field_bits_same no_field_bits l = no_field_bits
    field_bits_same (field_bits a b) l = field_bits (encoding_same a l.0) (field_bits_same b l.1)

  mutual
    pub zero_same : {t u : TypeTree} {z : Datum} → IsZero s.datas t z → AreLike s t u → IsZero s.datas u z
    zero_same {u = u} (zero_scalar {s = sort} {n = n}) l =
        let at = as_scalar l.same in
        let number = same_number values at.2 in
        subst (λ x. IsZero s.datas x (word (replicate (closed_value n) false))) (sym at.1)
        (subst (λ k. IsZero s.datas (scalar sort at.0) (word (replicate k false))) (sym number) zero_scalar)
    zero_same {u = u} (zero_vector {n = n} {t = t} {ds = ds} a) l =
        let at = vector_like n t u l in
        subst (λ x. IsZero s.datas x (elements ds)) (sym at.is)
        (zero_vector (subst (λ k. AreZeros s.datas k at.element ds) at.counts (zeros_same a at.like)))
    zero_same {u = u} {z = z} (zero_data {d = d} {it = it} {con = con} {ts = ts} known first a) l =
        let at = as_data l.same in
        let like = con_like s (arguments ts) (arguments at.0) it.cons 0 con first (fields_like s sound keep d it ts at.0 l.kind known l.has at.2) in
        subst (λ x. IsZero s.datas x z) (sym at.1) (zero_data known first (zero_fields_same a like))

    zeros_same : {n : ℕ} {t u : TypeTree} {ds : Datums} → AreZeros s.datas n t ds → AreLike s t u → AreZeros s.datas n u ds
    zeros_same no_zeros l = no_zeros
    zeros_same (zeros_and a b) l = zeros_and (zero_same a l) (zeros_same b l)

    zero_fields_same : {fs : List TypeTree} {σ τ : Substitution} {ds : Datums} → AreZeroFields s.datas fs σ ds → AllLike s σ τ fs → AreZeroFields s.datas fs τ ds
    zero_fields_same no_zero_field l = no_zero_field
    zero_fields_same (zero_field_and a b) l = zero_field_and (zero_same a l.0) (zero_fields_same b l.1)
