-- Layout as functions, which compute up to a depth: the measure of a type, the bits of a value, and
-- the value of bits.
use Rattle.std.specs.Prelude.{ℕ, suc, zero, ◌+◌, ◌-◌, nat_eq, Bool, List, [], ◌∷◌, ◌++◌, length, take, drop, Option, Some, None, slice_get}
use Rattle.chw_bits.specs.Bits.{number_of, bits_of}
use Rattle.chw_types.specs.declared.declarations.ConDecl.{ConDecl}
use Rattle.chw_types.specs.declared.declarations.Data.{Data}
use Rattle.chw_types.specs.TypeTree.{TypeTree, scalar, vector, data_of, TypeTrees}
use Rattle.chw_types.specs.TypeMoves.{Substitution, sub}
use Rattle.chw_types.specs.Arguments.{list_of, arguments}
use Rattle.chw_layout.specs.Datum.{Datum, word, built, elements, Datums, no_data, datum_and}
use Rattle.chw_layout.specs.Measured.{Measure, fits, too_wide, closed_value, tag_width, scalar_measure, vector_measure, then_measure, or_measure, tagged_measure}
use Rattle.chw_layout.specs.Encodes.{count_of, first_constructor, filled}
use Rattle.chw_meaning.specs.Eval.{same_bits}
use Rattle.chw_meaning.specs.Run.{only_if, changed, with_it, with_both}

unfoldable mutual
  -- the measure of a closed type
  pub measured_by : ℕ → List Data → TypeTree → Option Measure
  measured_by zero datas t = None
  measured_by (suc d) datas (scalar s n) = Some (scalar_measure (closed_value n))
  measured_by (suc d) datas (vector n t) =
      changed (vector_measure (closed_value n)) (measured_by d datas t)
  measured_by (suc d) datas (data_of i ts) = measured_data_by d datas (slice_get datas i) ts
  measured_by (suc d) datas _ = None

  -- that of a data type on these arguments
  pub measured_data_by : ℕ → List Data → Option Data → TypeTrees → Option Measure
  measured_data_by zero datas o ts = None
  measured_data_by (suc d) datas None ts = None
  measured_data_by (suc d) datas (Some it) ts =
      only_if (nat_eq (length (list_of ts)) (length it.params))
      (changed (tagged_measure (tag_width (length it.cons)))
      (measured_cons_by d datas it.cons (arguments ts)))

  -- that of the widest of these constructors
  pub measured_cons_by : ℕ → List Data → List ConDecl → Substitution → Option Measure
  measured_cons_by zero datas ks σ = None
  measured_cons_by (suc d) datas [] σ = Some (fits 0)
  measured_cons_by (suc d) datas (k ∷ ks) σ =
      with_both (measured_fields_by d datas k.fields σ) (measured_cons_by d datas ks σ) or_measure

  -- that of these fields together
  pub measured_fields_by : ℕ → List Data → List TypeTree → Substitution → Option Measure
  measured_fields_by zero datas fs σ = None
  measured_fields_by (suc d) datas [] σ = Some (fits 0)
  measured_fields_by (suc d) datas (f ∷ fs) σ =
      with_both (measured_by d datas (sub f σ)) (measured_fields_by d datas fs σ) then_measure

abbrev pub width_in : Measure → Option ℕ
width_in (fits w) = Some w
width_in (too_wide e) = None

-- the width of a closed type
abbrev pub width_by : ℕ → List Data → TypeTree → Option ℕ
width_by d datas t = with_it (measured_by d datas t) width_in

unfoldable mutual
  -- the bits of a value of a closed type
  pub encoded_by : ℕ → List Data → TypeTree → Datum → Option (List Bool)
  encoded_by zero datas t v = None
  encoded_by (suc d) datas (scalar s n) (word b) =
      only_if (nat_eq (length b) (closed_value n)) (Some b)
  encoded_by (suc d) datas (vector n t) (elements vs) =
      only_if (nat_eq (count_of vs) (closed_value n)) (encoded_elements_by d datas t vs)
  encoded_by (suc d) datas (data_of i ts) (built c vs) =
      with_it (slice_get datas i)
      (λ it. encoded_data_by d datas i ts it (c - first_constructor datas i) c vs)
  encoded_by (suc d) datas _ v = None

  -- the same of data, by the place of the constructor in its data type
  pub encoded_data_by : ℕ → List Data → ℕ → TypeTrees → Data → (place c : ℕ) → Datums
      → Option (List Bool)
  encoded_data_by zero datas i ts it place c vs = None
  encoded_data_by (suc d) datas i ts it place c vs =
      with_it (slice_get it.cons place) (λ k. with_it (width_by d datas (data_of i ts)) (λ w.
      only_if (nat_eq c (first_constructor datas i + place))
      (changed (λ b. filled w (bits_of (tag_width (length it.cons)) place ++ b))
      (encoded_fields_by d datas k.fields (arguments ts) vs))))

  pub encoded_elements_by : ℕ → List Data → TypeTree → Datums → Option (List Bool)
  encoded_elements_by zero datas t vs = None
  encoded_elements_by (suc d) datas t no_data = Some []
  encoded_elements_by (suc d) datas t (datum_and v vs) =
      with_both (encoded_by d datas t v) (encoded_elements_by d datas t vs) ◌++◌

  pub encoded_fields_by : ℕ → List Data → List TypeTree → Substitution → Datums → Option (List Bool)
  encoded_fields_by zero datas fs σ vs = None
  encoded_fields_by (suc d) datas [] σ no_data = Some []
  encoded_fields_by (suc d) datas (f ∷ fs) σ (datum_and v vs) =
      with_both (encoded_by d datas (sub f σ) v) (encoded_fields_by d datas fs σ vs) ◌++◌
  encoded_fields_by (suc d) datas fs σ vs = None

unfoldable mutual
  -- the value of a closed type that has these bits, if one has them
  pub guessed_by : ℕ → List Data → TypeTree → List Bool → Option Datum
  guessed_by zero datas t b = None
  guessed_by (suc d) datas (scalar s n) b = Some (word b)
  guessed_by (suc d) datas (vector n t) b =
      with_it (width_by d datas t)
      (λ w. changed elements (guessed_elements_by d datas t w (closed_value n) b))
  guessed_by (suc d) datas (data_of i ts) b =
      with_it (slice_get datas i)
      (λ it. guessed_data_by d datas i ts it (tag_width (length it.cons)) b)
  guessed_by (suc d) datas _ b = None

  -- the same of data, whose tag has so many bits
  pub guessed_data_by : ℕ → List Data → ℕ → TypeTrees → Data → ℕ → List Bool → Option Datum
  guessed_data_by zero datas i ts it tag b = None
  guessed_data_by (suc d) datas i ts it tag b =
      with_it (slice_get it.cons (number_of (take tag b)))
      (λ k. changed (built (first_constructor datas i + number_of (take tag b)))
      (guessed_fields_by d datas k.fields (arguments ts) (drop tag b)))

  -- the same of so many elements of this width
  pub guessed_elements_by : ℕ → List Data → TypeTree → (width count : ℕ) → List Bool → Option Datums
  guessed_elements_by zero datas t w n b = None
  guessed_elements_by (suc d) datas t w zero b = Some no_data
  guessed_elements_by (suc d) datas t w (suc n) b =
      with_both (guessed_by d datas t (take w b)) (guessed_elements_by d datas t w n (drop w b))
      datum_and

  pub guessed_fields_by : ℕ → List Data → List TypeTree → Substitution → List Bool → Option Datums
  guessed_fields_by zero datas fs σ b = None
  guessed_fields_by (suc d) datas [] σ b = Some no_data
  guessed_fields_by (suc d) datas (f ∷ fs) σ b =
      with_it (width_by d datas (sub f σ)) (λ w.
      with_both (guessed_by d datas (sub f σ) (take w b))
      (guessed_fields_by d datas fs σ (drop w b)) datum_and)

-- the value of a closed type that has these bits
abbrev pub decoded_by : ℕ → List Data → TypeTree → List Bool → Option Datum
decoded_by d datas t b =
    with_it (guessed_by d datas t b) (λ v. with_it (encoded_by d datas t v) (λ a.
    only_if (same_bits a b) (Some v)))
