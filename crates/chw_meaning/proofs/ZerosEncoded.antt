-- The bits of a zero are all zero.
use Rattle.std.specs.Prelude.{Bool, replicate, false, ◌-◌, ◌*◌, ◌^◌, ◌%◌, ◌==◌}
use Rattle.std.proofs.Common.{◌≡◌, ℕ, suc, zero, ◌+◌, ◌≤◌, List, [], ◌∷◌, ◌++◌, length, refl, sym, ap, ◌∙◌, subst, arith}
use Rattle.std.proofs.lemmas.List.{replicate-append-replicate, length-replicate}
use Rattle.std.proofs.Math.Nat.{zero-div}
use Rattle.chw_base.specs.declared.limits.TheConstants.{DATA_BITS}
use Rattle.chw_bits.specs.Bits.{bits_of}
use Rattle.chw_types.specs.declared.declarations.Data.{Data}
use Rattle.chw_types.specs.TypeTree.{TypeTree, scalar, vector, data_of}
use Rattle.chw_types.specs.TypeMoves.{Substitution}
use Rattle.chw_layout.specs.Datum.{Datum, word, built, elements, Datums, no_data, datum_and}
use Rattle.chw_layout.specs.Measured.{fits, closed_value, tag_width, MeasuredFields, HasWidth}
use Rattle.chw_layout.specs.Encodes.{count_of, first_constructor, filled, Encodes, scalar_bits, vector_bits, data_bits, EncodesElements, no_element_bits, element_bits, EncodesFields, no_field_bits, field_bits}
use Rattle.chw_layout.proofs.Fitting.{scalar_width, element_width, cons_width, con_width, field_width}
use Rattle.chw_layout.proofs.Measures.{no_fields}
use Rattle.chw_meaning.specs.Zeros.{IsZero, zero_scalar, zero_vector, zero_data, AreZeros, no_zeros, zeros_and, AreZeroFields, no_zero_field, zero_field_and}

zeros_of_zero : (n : ℕ) → bits_of n 0 ≡ replicate n false
zeros_of_zero zero = refl
zeros_of_zero (suc n) = let bit = ap (λ q. (q % 2) == 1) (zero-div (2 ^ n)) in λ i. bit i ∷ zeros_of_zero n i

zeros_filled : (tag s w : ℕ) → tag + s ≤ w → filled w (bits_of tag 0 ++ replicate s false) ≡ replicate w false
zeros_filled tag s w le =
    let all : tag + s + (w - (tag + s)) ≡ w = omega (arith, le) in
    ap (λ b. filled w (b ++ replicate s false)) (zeros_of_zero tag)
    ∙ ap (filled w) (replicate-append-replicate tag s false)
    ∙ ap (λ n. replicate (tag + s) false ++ replicate (w - n) false) (length-replicate (tag + s) false)
    ∙ replicate-append-replicate (tag + s) (w - (tag + s)) false
    ∙ ap (λ n. replicate n false) all

no_width : (s : ℕ) → fits s ≡ fits 0 → zero ≡ s
no_width s e = cc

mutual
  pub zero_bits : {datas : List Data} {t : TypeTree} {w : ℕ} {z : Datum} → HasWidth datas t w → IsZero datas t z → Encodes datas t z (replicate w false)
  zero_bits {datas} d (zero_scalar {s = s} {n = n}) =
      subst (λ k. Encodes datas (scalar s n) (word (replicate (closed_value n) false)) (replicate k false)) (sym (scalar_width d)) (scalar_bits (length-replicate (closed_value n) false))
  zero_bits {datas} {w = w} d (zero_vector {n = n} {t = t} {ds = ds} zs) =
      let of = element_width d in
      subst (λ k. Encodes datas (vector n t) (elements ds) (replicate k false)) (sym of.is) (vector_bits (zeros_counted zs) (each_zero of.element zs))
  zero_bits {datas} {w = w} d (zero_data {d = i} {it = it} {con = con} {ts = ts} {ds = ds} l m zs) =
      let of = cons_width it l d in
      let at = con_width it.cons 0 con m of.cons in
      let tag = tag_width (length it.cons) in
      let number : first_constructor datas i ≡ first_constructor datas i + 0 = omega arith in
      subst (Encodes datas (data_of i ts) (built (first_constructor datas i) ds)) (zeros_filled tag at.s w (omega (arith, of.is, at.within)))
      (data_bits 0 w it con (replicate at.s false) l number m (fields_zero at.s at.fields (omega (arith, of.is, of.within, at.within)) zs) d)

  zeros_counted : {datas : List Data} {n : ℕ} {t : TypeTree} {ds : Datums} → AreZeros datas n t ds → count_of ds ≡ n
  zeros_counted no_zeros = refl
  zeros_counted (zeros_and z zs) = ap suc (zeros_counted zs)

  each_zero : {datas : List Data} {n : ℕ} {t : TypeTree} {w : ℕ} {ds : Datums} → HasWidth datas t w → AreZeros datas n t ds → EncodesElements datas t ds (replicate (n * w) false)
  each_zero {datas} {t = t} {w = w} d no_zeros = let none : 0 ≡ 0 * w = omega arith in subst (λ k. EncodesElements datas t no_data (replicate k false)) none no_element_bits
  each_zero {datas} {t = t} {w = w} d (zeros_and {n = n} {d = v} {ds = vs} z zs) =
      let more : w + n * w ≡ suc n * w = omega arith in
      subst (EncodesElements datas t (datum_and v vs)) (replicate-append-replicate w (n * w) false ∙ ap (λ k. replicate k false) more) (element_bits (zero_bits d z) (each_zero d zs))

  fields_zero : {datas : List Data} {fs : List TypeTree} {σ : Substitution} {ds : Datums} (s : ℕ) → MeasuredFields datas fs σ (fits s) → s ≤ DATA_BITS → AreZeroFields datas fs σ ds → EncodesFields datas fs σ ds (replicate s false)
  fields_zero {datas} {σ = σ} s d le no_zero_field = subst (λ k. EncodesFields datas [] σ no_data (replicate k false)) (no_width s (no_fields d)) no_field_bits
  fields_zero {datas} {σ = σ} s d le (zero_field_and {f = f} {fs = fs} {d = v} {ds = vs} z zs) =
      let of = field_width le d in
      subst (EncodesFields datas (f ∷ fs) σ (datum_and v vs)) (replicate-append-replicate of.a of.b false ∙ ap (λ k. replicate k false) (sym of.is))
      (field_bits (zero_bits of.first z) (fields_zero of.b of.rest (omega (arith, of.is, le)) zs))

pub no_bits : (b : List Bool) → length b ≡ 0 → b ≡ []
no_bits [] e = refl
no_bits (x ∷ b) e = absurd (omega (arith, e))
