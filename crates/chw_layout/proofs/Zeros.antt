-- Each type with a width has a value of zeros alone.
use Rattle.std.proofs.Common.{◌≡◌, ℕ, suc, zero, ◌+◌, ◌-◌, ◌*◌, ◌<◌, ◌≤◌, Bool, false, refl, sym, ap, subst, ◌∙◌, List, [], ◌∷◌, ◌++◌, length, arith}
use Rattle.std.specs.Prelude.{Some, replicate, nat_le}
use Rattle.std.specs.List.{slice_get}
use Rattle.std.proofs.lemmas.List.{length-replicate}
use Rattle.chw_base.specs.declared.limits.TheConstants.{DATA_BITS, SCALAR_BITS}
use Rattle.chw_bits.specs.Bits.{number_of, bits_of}
use Rattle.chw_types.specs.declared.declarations.ConDecl.{ConDecl}
use Rattle.chw_types.specs.declared.declarations.Data.{Data}
use Rattle.chw_types.specs.TypeTree.{TypeTree, vector, data_of}
use Rattle.chw_types.specs.TypeMoves.{Substitution}
use Rattle.chw_layout.specs.Datum.{Datum, word, built, elements, Datums, no_data, datum_and}
use Rattle.chw_layout.specs.Measured.{Measure, fits, closed_value, tag_width, Measured, measured_scalar, measured_vector, measured_data, MeasuredCons, no_cons_measured, con_measured, MeasuredFields, no_fields_measured, field_measured, HasWidth}
use Rattle.chw_layout.specs.Encodes.{count_of, first_constructor, IsValueOf, filled, Encodes, scalar_bits, vector_bits, data_bits, EncodesElements, no_element_bits, element_bits, EncodesFields, no_field_bits, field_bits, HaveConstructors}
use Rattle.chw_layout.proofs.Fitting.{if_scalar, vector_fits, tagged_fits, then_fits, or_fits, not_ended}
use Rattle.chw_layout.proofs.Encodings.{BitsMean, BitsAreAsMany, encoded_length, value_encoded, encoded_value, encoded_same}

abbrev pub BitsBack : Type 0
BitsBack = (bits : List Bool) → bits_of (length bits) (number_of bits) ≡ bits

zeros_join : (a b : ℕ) → replicate a false ++ replicate b false ≡ replicate (a + b) false
zeros_join zero b = let e : b ≡ 0 + b = omega arith in ap (λ n. replicate n false) e
zeros_join (suc a) b = let e : suc (a + b) ≡ suc a + b = omega arith in ap (λ bs. false ∷ bs) (zeros_join a b) ∙ ap (λ n. replicate n false) e

number_of_zeros : (k : ℕ) → number_of (replicate k false) ≡ 0
number_of_zeros zero = refl
number_of_zeros (suc k) = let e = number_of_zeros k in omega arith

zero_tag : BitsBack → (k : ℕ) → bits_of k 0 ≡ replicate k false
zero_tag h k = (λ i. bits_of (sym (length-replicate k false) i) (sym (number_of_zeros k) i)) ∙ h (replicate k false)

zeros_filled : BitsBack → (k a w : ℕ) → k + a ≤ w → filled w (bits_of k 0 ++ replicate a false) ≡ replicate w false
zeros_filled h k a w l =
    let e : k + a + (w - (k + a)) ≡ w = omega arith in
    ap (λ bs. filled w (bs ++ replicate a false)) (zero_tag h k) ∙ ap (filled w) (zeros_join k a)
    ∙ ap (λ n. replicate (k + a) false ++ replicate (w - n) false) (length-replicate (k + a) false) ∙ zeros_join (k + a) (w - (k + a)) ∙ ap (λ n. replicate n false) e

copies : ℕ → Datum → Datums
copies zero v = no_data
copies (suc n) v = datum_and v (copies n v)

count_copies : (n : ℕ) (v : Datum) → count_of (copies n v) ≡ n
unfolding copies
count_copies zero v = refl
count_copies (suc n) v = ap suc (count_copies n v)

copies_encoded : (datas : List Data) (t : TypeTree) (v : Datum) (a n : ℕ) → Encodes datas t v (replicate a false) → EncodesElements datas t (copies n v) (replicate (n * a) false)
unfolding copies
copies_encoded datas t v a zero e = let p : 0 ≡ 0 * a = omega arith in subst (λ m. EncodesElements datas t no_data (replicate m false)) p no_element_bits
copies_encoded datas t v a (suc n) e =
    let p : a + n * a ≡ suc n * a = omega arith in
    subst (EncodesElements datas t (datum_and v (copies n v))) (zeros_join a (n * a) ∙ ap (λ m. replicate m false) p) (element_bits e (copies_encoded datas t v a n e))

-- the first constructor with zeros
record ZeroCon (datas : List Data) (cs : List ConDecl) (σ : Substitution) (s : ℕ) : Type 0 where
  c : ConDecl
  vs : Datums
  a : ℕ
  at : slice_get cs 0 ≡ Some c
  fields : EncodesFields datas c.fields σ vs (replicate a false)
  within : a ≤ s

mutual
  zero_of : {datas : List Data} {t : TypeTree} {m : Measure} → BitsBack → HaveConstructors datas → Measured datas t m → (w : ℕ) → fits w ≡ m → (v : Datum) × Encodes datas t v (replicate w false)
  zero_of h some (measured_scalar {w = x}) w e =
      (word (replicate w false), scalar_bits (length-replicate w false ∙ if_scalar (closed_value x) w (nat_le (closed_value x) SCALAR_BITS) e))
  zero_of {datas} h some (measured_vector {n = n} {t = t} {m = m} a) w e =
      let f = vector_fits (closed_value n) m w e in
      let z = zero_of h some a f.a (sym f.inner) in (
        elements (copies (closed_value n) z.0),
        subst (λ k. Encodes datas (vector n t) (elements (copies (closed_value n) z.0)) (replicate k false)) (sym f.is)
            (vector_bits (count_copies (closed_value n) z.0) (copies_encoded datas t z.0 f.a (closed_value n) z.1)),
      )
  zero_of {datas} h some (measured_data {d = d} {it = it} {ts = ts} {m = m} known as_many a) w e =
      let k = tag_width (length it.cons) in
      let f = tagged_fits k m w e in
      let z = zero_con h some a f.a (sym f.inner) (some d it known) (let p = f.is in let q = f.within in omega arith) in (
        built (first_constructor datas d + 0) z.vs,
        subst (Encodes datas (data_of d ts) (built (first_constructor datas d + 0) z.vs)) (zeros_filled h k z.a w (let p = f.is in let q = z.within in omega arith))
            (data_bits 0 w it z.c (replicate z.a false) known refl z.at z.fields (subst (Measured datas (data_of d ts)) (sym e) (measured_data known as_many a))),
      )

  zero_con : {datas : List Data} {cs : List ConDecl} {σ : Substitution} {m : Measure} → BitsBack → HaveConstructors datas → MeasuredCons datas cs σ m → (s : ℕ) → fits s ≡ m → 0 < length cs → s ≤ DATA_BITS → ZeroCon datas cs σ s
  zero_con h some no_cons_measured s e l k = absurd (omega arith)
  zero_con h some (con_measured {c = c} {m = m} {n = n} a b) s e l k =
      let f = or_fits m n s e in
      let small : f.a ≤ s = let p = f.is in omega arith in
      let z = zero_fields h some a f.a (sym f.one) (omega arith) in
      record { c = c; vs = z.0; a = f.a; at = refl; fields = z.1; within = small }

  zero_fields : {datas : List Data} {fs : List TypeTree} {σ : Substitution} {m : Measure} → BitsBack → HaveConstructors datas → MeasuredFields datas fs σ m → (s : ℕ) → fits s ≡ m → s ≤ DATA_BITS → (vs : Datums) × EncodesFields datas fs σ vs (replicate s false)
  zero_fields {datas} {σ = σ} h some no_fields_measured s e l = let p : 0 ≡ s = cc in (no_data, subst (λ k. EncodesFields datas [] σ no_data (replicate k false)) p no_field_bits)
  zero_fields {datas} {σ = σ} h some (field_measured {f = f} {fs = fs} {m = m} {n = n} a b) s e l =
      let p = then_fits m n s e in
      let q : s ≡ p.a + p.b = not_ended (p.a + p.b) s p.is (subst (λ x. x ≤ DATA_BITS) p.is l) in
      let z = zero_of h some a p.a (sym p.one) in
      let zs = zero_fields h some b p.b (sym p.others) (omega arith) in (
        datum_and z.0 zs.0,
        subst (EncodesFields datas (f ∷ fs) σ (datum_and z.0 zs.0)) (zeros_join p.a p.b ∙ ap (λ k. replicate k false) (sym q)) (field_bits z.1 zs.1),
      )

pub zero_there : (datas : List Data) (t : TypeTree) (w : ℕ) → BitsBack → HaveConstructors datas → HasWidth datas t w → (v : Datum) × Encodes datas t v (replicate w false)
zero_there datas t w h some d = zero_of h some d w refl

no_bits : (bits : List Bool) → length bits ≡ 0 → bits ≡ []
no_bits [] e = refl
no_bits (b ∷ bits) e = absurd (omega arith)

pub one_value : (datas : List Data) (t : TypeTree) → BitsBack → BitsAreAsMany → BitsMean → HaveConstructors datas → HasWidth datas t 0 → (v : Datum) × IsValueOf datas t v × ((u : Datum) → IsValueOf datas t u → u ≡ v)
one_value datas t back many mean some d =
    let z = zero_there datas t 0 back some d in (
      z.0,
      encoded_value z.1,
      λ u k.
          let e = value_encoded k d in
          encoded_same many mean e.1 z.1 d (no_bits e.0 (encoded_length many e.1 d)),
    )
