-- The functions that compute layouts give only what the relations have.
use Rattle.std.specs.Prelude.{slice_get, nat_eq, true, false, cond, not, ◌&&◌}
use Rattle.std.proofs.Common.{◌≡◌, ℕ, suc, zero, ◌+◌, ◌-◌, List, [], ◌∷◌, ◌++◌, length, Bool, Option, Some, None, refl, subst}
use Rattle.std.proofs.lemmas.Bool.{eqb-true}
use Rattle.chw_bits.specs.Bits.{bits_of}
use Rattle.chw_types.specs.declared.declarations.ConDecl.{ConDecl}
use Rattle.chw_types.specs.declared.declarations.Data.{Data}
use Rattle.chw_types.specs.TypeTree.{TypeTree, ty_var, nat_lit, nat_sum, nat_product, domain, scalar, vector, data_of, fun, signal, for_all, TypeTrees}
use Rattle.chw_types.specs.TypeMoves.{Substitution, sub}
use Rattle.chw_types.specs.Arguments.{list_of, arguments}
use Rattle.chw_layout.specs.Datum.{Datum, word, built, elements, Datums, no_data, datum_and}
use Rattle.chw_layout.specs.Measured.{Measure, fits, too_wide, closed_value, tag_width, vector_measure, then_measure, or_measure, tagged_measure, Measured, measured_scalar, measured_vector, measured_data, MeasuredCons, no_cons_measured, con_measured, MeasuredFields, no_fields_measured, field_measured, HasWidth}
use Rattle.chw_layout.specs.Encodes.{count_of, first_constructor, filled, Encodes, scalar_bits, vector_bits, data_bits, EncodesElements, no_element_bits, element_bits, EncodesFields, no_field_bits, field_bits}
use Rattle.chw_meaning.specs.Eval.{same_bits}
use Rattle.chw_meaning.specs.Layouts.{measured_by, measured_data_by, measured_cons_by, measured_fields_by, width_in, width_by, encoded_by, encoded_data_by, encoded_elements_by, encoded_fields_by, guessed_by, decoded_by}
use Rattle.chw_meaning.proofs.Holding.{If, if_none, if_some, if_so, if_changed, if_both, if_at, if_it, if_only}

mutual
  unfolding measured_by

  pub measured_sound : (d : ℕ) (datas : List Data) (t : TypeTree) → If Measure (λ m. Measured datas t m) (measured_by d datas t)
  measured_sound zero datas t = if_none
  measured_sound (suc d) datas (scalar s n) = if_some measured_scalar
  measured_sound (suc d) datas (vector n t) = if_changed (vector_measure (closed_value n)) (measured_sound d datas t) (λ m x. measured_vector x)
  measured_sound (suc d) datas (data_of i ts) = measured_data_sound d datas i ts (slice_get datas i) refl
  measured_sound (suc d) datas (ty_var x) = if_none
  measured_sound (suc d) datas (nat_lit x) = if_none
  measured_sound (suc d) datas (nat_sum a b) = if_none
  measured_sound (suc d) datas (nat_product a b) = if_none
  measured_sound (suc d) datas (domain x) = if_none
  measured_sound (suc d) datas (fun a b) = if_none
  measured_sound (suc d) datas (signal a b) = if_none
  measured_sound (suc d) datas (for_all k t) = if_none

  measured_data_sound : (d : ℕ) (datas : List Data) (i : ℕ) (ts : TypeTrees) (o : Option Data) → slice_get datas i ≡ o → If Measure (λ m. Measured datas (data_of i ts) m) (measured_data_by d datas o ts)
  measured_data_sound zero datas i ts o e = if_none
  measured_data_sound (suc d) datas i ts None e = if_none
  measured_data_sound (suc d) datas i ts (Some it) e =
      if_only (nat_eq (length (list_of ts)) (length it.params)) (λ many. if_changed (tagged_measure (tag_width (length it.cons))) (measured_cons_sound d datas it.cons (arguments ts)) (λ m x. measured_data e (eqb-true (length (list_of ts)) (length it.params) many) x))

  measured_cons_sound : (d : ℕ) (datas : List Data) (ks : List ConDecl) (σ : Substitution) → If Measure (λ m. MeasuredCons datas ks σ m) (measured_cons_by d datas ks σ)
  measured_cons_sound zero datas ks σ = if_none
  measured_cons_sound (suc d) datas [] σ = if_some no_cons_measured
  measured_cons_sound (suc d) datas (k ∷ ks) σ = if_both or_measure (measured_fields_sound d datas k.fields σ) (measured_cons_sound d datas ks σ) (λ m n x y. con_measured x y)

  measured_fields_sound : (d : ℕ) (datas : List Data) (fs : List TypeTree) (σ : Substitution) → If Measure (λ m. MeasuredFields datas fs σ m) (measured_fields_by d datas fs σ)
  measured_fields_sound zero datas fs σ = if_none
  measured_fields_sound (suc d) datas [] σ = if_some no_fields_measured
  measured_fields_sound (suc d) datas (f ∷ fs) σ = if_both then_measure (measured_sound d datas (sub f σ)) (measured_fields_sound d datas fs σ) (λ m n x y. field_measured x y)

width_found : {datas : List Data} {t : TypeTree} (m : Measure) → Measured datas t m → If ℕ (λ w. HasWidth datas t w) (width_in m)
width_found (fits w) x = if_some x
width_found (too_wide e) x = if_none

pub width_sound : (d : ℕ) (datas : List Data) (t : TypeTree) → If ℕ (λ w. HasWidth datas t w) (width_by d datas t)
width_sound d datas t = if_it (measured_sound d datas t) width_found

mutual
  unfolding encoded_by

  pub encoded_sound : (d : ℕ) (datas : List Data) (t : TypeTree) (v : Datum) → If (List Bool) (λ b. Encodes datas t v b) (encoded_by d datas t v)
  encoded_sound zero datas t v = if_none
  encoded_sound (suc d) datas (scalar s n) (word b) = if_only (nat_eq (length b) (closed_value n)) (λ e. if_some (scalar_bits (eqb-true (length b) (closed_value n) e)))
  encoded_sound (suc d) datas (scalar s n) (built c vs) = if_none
  encoded_sound (suc d) datas (scalar s n) (elements vs) = if_none
  encoded_sound (suc d) datas (vector n t) (elements vs) =
      if_only (nat_eq (count_of vs) (closed_value n)) (λ e. if_so (encoded_elements_sound d datas t vs) (λ b x. vector_bits (eqb-true (count_of vs) (closed_value n) e) x))
  encoded_sound (suc d) datas (vector n t) (word b) = if_none
  encoded_sound (suc d) datas (vector n t) (built c vs) = if_none
  encoded_sound (suc d) datas (data_of i ts) (built c vs) = if_at (slice_get datas i) (λ it e. encoded_data_sound d datas i ts it (c - first_constructor datas i) c vs e)
  encoded_sound (suc d) datas (data_of i ts) (word b) = if_none
  encoded_sound (suc d) datas (data_of i ts) (elements vs) = if_none
  encoded_sound (suc d) datas (ty_var x) v = if_none
  encoded_sound (suc d) datas (nat_lit x) v = if_none
  encoded_sound (suc d) datas (nat_sum a b) v = if_none
  encoded_sound (suc d) datas (nat_product a b) v = if_none
  encoded_sound (suc d) datas (domain x) v = if_none
  encoded_sound (suc d) datas (fun a b) v = if_none
  encoded_sound (suc d) datas (signal a b) v = if_none
  encoded_sound (suc d) datas (for_all k t) v = if_none

  encoded_data_sound : (d : ℕ) (datas : List Data) (i : ℕ) (ts : TypeTrees) (it : Data) (place c : ℕ) (vs : Datums) → slice_get datas i ≡ Some it → If (List Bool) (λ b. Encodes datas (data_of i ts) (built c vs) b) (encoded_data_by d datas i ts it place c vs)
  encoded_data_sound zero datas i ts it place c vs known = if_none
  encoded_data_sound (suc d) datas i ts it place c vs known =
      if_at (slice_get it.cons place) (λ k at. if_it (width_sound d datas (data_of i ts)) (λ w own. if_only (nat_eq c (first_constructor datas i + place)) (λ e. if_changed (λ b. filled w (bits_of (tag_width (length it.cons)) place ++ b)) (encoded_fields_sound d datas k.fields (arguments ts) vs) (λ b x. data_bits place w it k b known (eqb-true c (first_constructor datas i + place) e) at x own))))

  encoded_elements_sound : (d : ℕ) (datas : List Data) (t : TypeTree) (vs : Datums) → If (List Bool) (λ b. EncodesElements datas t vs b) (encoded_elements_by d datas t vs)
  encoded_elements_sound zero datas t vs = if_none
  encoded_elements_sound (suc d) datas t no_data = if_some no_element_bits
  encoded_elements_sound (suc d) datas t (datum_and v vs) = if_both ◌++◌ (encoded_sound d datas t v) (encoded_elements_sound d datas t vs) (λ a b x y. element_bits x y)

  encoded_fields_sound : (d : ℕ) (datas : List Data) (fs : List TypeTree) (σ : Substitution) (vs : Datums) → If (List Bool) (λ b. EncodesFields datas fs σ vs b) (encoded_fields_by d datas fs σ vs)
  encoded_fields_sound zero datas fs σ vs = if_none
  encoded_fields_sound (suc d) datas [] σ no_data = if_some no_field_bits
  encoded_fields_sound (suc d) datas [] σ (datum_and v vs) = if_none
  encoded_fields_sound (suc d) datas (f ∷ fs) σ no_data = if_none
  encoded_fields_sound (suc d) datas (f ∷ fs) σ (datum_and v vs) = if_both ◌++◌ (encoded_sound d datas (sub f σ) v) (encoded_fields_sound d datas fs σ vs) (λ a b x y. field_bits x y)

pub both_true : (a b : Bool) → (a && b) ≡ true → (a ≡ true) × (b ≡ true)
both_true true b e = (refl, e)
both_true false b e = cc

same_bit : (x y : Bool) → cond x y (not y) ≡ true → x ≡ y
same_bit true true e = refl
same_bit true false e = cc
same_bit false true e = cc
same_bit false false e = refl

-- bits that are the same are equal
bits_equal : (a b : List Bool) → same_bits a b ≡ true → a ≡ b
bits_equal [] [] e = refl
bits_equal [] (y ∷ ys) e = cc
bits_equal (x ∷ xs) [] e = cc
bits_equal (x ∷ xs) (y ∷ ys) e =
    let q = both_true (cond x y (not y)) (same_bits xs ys) e in λ i. same_bit x y q.0 i ∷ bits_equal xs ys q.1 i

pub decoded_sound : (d : ℕ) (datas : List Data) (t : TypeTree) (b : List Bool) → If Datum (λ v. Encodes datas t v b) (decoded_by d datas t b)
decoded_sound d datas t b =
    if_at (guessed_by d datas t b) (λ v e. if_it (encoded_sound d datas t v) (λ a x. if_only (same_bits a b) (λ same. if_some (subst (Encodes datas t v) (bits_equal a b same) x))))
