-- What a measure says of the parts, and which types have one.
use Rattle.std.proofs.Common.{◌≡◌, ℕ, ◌+◌, ◌*◌, ◌≤◌, Bool, true, false, refl, sym, ap, subst, ◌∙◌, List, [], ◌∷◌, ◌++◌, length, arith}
use Rattle.std.specs.Prelude.{if◌then◌else◌, nat_le, Some}
use Rattle.std.specs.List.{slice_get}
use Rattle.std.proofs.lemmas.Bool.{leb-true}
use Rattle.chw_base.specs.declared.limits.TheConstants.{DATA_BITS, SCALAR_BITS, VECTOR_LENGTH}
use Rattle.chw_types.specs.declared.kind.Scalar.{Scalar}
use Rattle.chw_types.specs.declared.declarations.ConDecl.{ConDecl}
use Rattle.chw_types.specs.declared.declarations.Data.{Data}
use Rattle.chw_types.specs.TypeTree.{TypeTree, scalar, vector, data_of, TypeTrees}
use Rattle.chw_types.specs.TypeMoves.{Substitution, sub}
use Rattle.chw_types.specs.Arguments.{list_of, arguments, all_fields}
use Rattle.chw_types.specs.Polynomials.{greatest, ended}
use Rattle.type_ports.specs.Representable.{Representable, representable_scalar, representable_vector, representable_data, AllRepresentable, none_to_represent, represent_and}
use Rattle.chw_layout.specs.declared.outcome.NoLayout.TheVariants.{NotRepresentable, Scalar as OverScalar, Data as OverData, Length as OverLength}
use Rattle.chw_layout.specs.Measured.{Measure, fits, too_wide, closed_value, tag_width, scalar_measure, data_measure, vector_measure, then_measure, or_measure, tagged_measure, Measured, measured_scalar, measured_vector, measured_data, MeasuredCons, no_cons_measured, con_measured, MeasuredFields, no_fields_measured, field_measured}

pub scalar_measured : {datas : List Data} {s : Scalar} {w : TypeTree} {m : Measure} → Measured datas (scalar s w) m → m ≡ scalar_measure (closed_value w)
scalar_measured measured_scalar = refl

-- the element of a vector has a measure
pub record ElementMeasured (datas : List Data) (n t : TypeTree) (m : Measure) : Type 0 where
  pub of : Measure
  pub measured : Measured datas t of
  pub is : m ≡ vector_measure (closed_value n) of

pub vector_measured : {datas : List Data} {n t : TypeTree} {m : Measure} → Measured datas (vector n t) m → ElementMeasured datas n t m
vector_measured (measured_vector {m = m} d) = record { of = m; measured = d; is = refl }

-- the constructors of a data type have a measure
pub record ConsMeasured (datas : List Data) (d : ℕ) (ts : TypeTrees) (m : Measure) : Type 0 where
  pub it : Data
  pub known : slice_get datas d ≡ Some it
  pub as_many : length (list_of ts) ≡ length it.params
  pub of : Measure
  pub measured : MeasuredCons datas it.cons (arguments ts) of
  pub is : m ≡ tagged_measure (tag_width (length it.cons)) of

pub data_measured : {datas : List Data} {d : ℕ} {ts : TypeTrees} {m : Measure} → Measured datas (data_of d ts) m → ConsMeasured datas d ts m
data_measured (measured_data {it = it} {m = m} known as_many d) = record { it = it; known = known; as_many = as_many; of = m; measured = d; is = refl }

-- the same, of a data type that is known
pub record KnownMeasured (datas : List Data) (it : Data) (ts : TypeTrees) (m : Measure) : Type 0 where
  pub as_many : length (list_of ts) ≡ length it.params
  pub of : Measure
  pub measured : MeasuredCons datas it.cons (arguments ts) of
  pub is : m ≡ tagged_measure (tag_width (length it.cons)) of

pub known_measured : {datas : List Data} {d : ℕ} {ts : TypeTrees} {m : Measure} (it : Data) → slice_get datas d ≡ Some it → Measured datas (data_of d ts) m → KnownMeasured datas it ts m
known_measured {datas} {d} {ts} {m} it known e =
    let w = data_measured e in
    let same : w.it ≡ it = cc (w.known, known) in
    record {
      as_many = subst (λ o. length (list_of ts) ≡ length o.params) same w.as_many;
      of = w.of;
      measured = subst (λ o. MeasuredCons datas o.cons (arguments ts) w.of) same w.measured;
      is = subst (λ o. m ≡ tagged_measure (tag_width (length o.cons)) w.of) same w.is;
    }

pub no_fields : {datas : List Data} {σ : Substitution} {m : Measure} → MeasuredFields datas [] σ m → m ≡ fits 0
no_fields no_fields_measured = refl

pub no_cons : {datas : List Data} {σ : Substitution} {m : Measure} → MeasuredCons datas [] σ m → m ≡ fits 0
no_cons no_cons_measured = refl

-- a field and those after it
pub record FieldMeasured (datas : List Data) (f : TypeTree) (fs : List TypeTree) (σ : Substitution) (m : Measure) : Type 0 where
  pub one : Measure
  pub others : Measure
  pub first : Measured datas (sub f σ) one
  pub rest : MeasuredFields datas fs σ others
  pub is : m ≡ then_measure one others

pub next_field : {datas : List Data} {f : TypeTree} {fs : List TypeTree} {σ : Substitution} {m : Measure} → MeasuredFields datas (f ∷ fs) σ m → FieldMeasured datas f fs σ m
next_field (field_measured {m = m} {n = n} a b) = record { one = m; others = n; first = a; rest = b; is = refl }

-- a constructor and those after it
pub record ConMeasured (datas : List Data) (c : ConDecl) (cs : List ConDecl) (σ : Substitution) (m : Measure) : Type 0 where
  pub one : Measure
  pub others : Measure
  pub first : MeasuredFields datas c.fields σ one
  pub rest : MeasuredCons datas cs σ others
  pub is : m ≡ or_measure one others

pub next_con : {datas : List Data} {c : ConDecl} {cs : List ConDecl} {σ : Substitution} {m : Measure} → MeasuredCons datas (c ∷ cs) σ m → ConMeasured datas c cs σ m
next_con (con_measured {m = m} {n = n} a b) = record { one = m; others = n; first = a; rest = b; is = refl }

-- a type has at most one measure
mutual
  pub measured_once : {datas : List Data} {t : TypeTree} {m n : Measure} → Measured datas t m → Measured datas t n → m ≡ n
  measured_once measured_scalar e = sym (scalar_measured e)
  measured_once (measured_vector {n = n} a) e = let w = vector_measured e in ap (vector_measure (closed_value n)) (measured_once a w.measured) ∙ sym w.is
  measured_once (measured_data {it = it} known as_many a) e =
      let w = known_measured it known e in ap (tagged_measure (tag_width (length it.cons))) (cons_once a w.measured) ∙ sym w.is

  pub cons_once : {datas : List Data} {cs : List ConDecl} {σ : Substitution} {m n : Measure} → MeasuredCons datas cs σ m → MeasuredCons datas cs σ n → m ≡ n
  cons_once no_cons_measured e = sym (no_cons e)
  cons_once (con_measured a b) e = let w = next_con e in (λ i. or_measure (fields_once a w.first i) (cons_once b w.rest i)) ∙ sym w.is

  pub fields_once : {datas : List Data} {fs : List TypeTree} {σ : Substitution} {m n : Measure} → MeasuredFields datas fs σ m → MeasuredFields datas fs σ n → m ≡ n
  fields_once no_fields_measured e = sym (no_fields e)
  fields_once (field_measured a b) e = let w = next_field e in (λ i. then_measure (measured_once a w.first i) (fields_once b w.rest i)) ∙ sym w.is

all_of_both : {datas : List Data} {fs gs : List TypeTree} {σ : Substitution} → AllRepresentable datas fs σ → AllRepresentable datas gs σ → AllRepresentable datas (fs ++ gs) σ
all_of_both none_to_represent b = b
all_of_both (represent_and r a) b = represent_and r (all_of_both a b)

-- what has a measure is representable
mutual
  pub measured_representable : {datas : List Data} {t : TypeTree} {m : Measure} → Measured datas t m → Representable datas t
  measured_representable measured_scalar = representable_scalar
  measured_representable (measured_vector a) = representable_vector (measured_representable a)
  measured_representable (measured_data known as_many a) = representable_data known as_many (cons_representable a)

  cons_representable : {datas : List Data} {cs : List ConDecl} {σ : Substitution} {m : Measure} → MeasuredCons datas cs σ m → AllRepresentable datas (all_fields cs) σ
  cons_representable no_cons_measured = none_to_represent
  cons_representable (con_measured a b) = all_of_both (fields_representable a) (cons_representable b)

  fields_representable : {datas : List Data} {fs : List TypeTree} {σ : Substitution} {m : Measure} → MeasuredFields datas fs σ m → AllRepresentable datas fs σ
  fields_representable no_fields_measured = none_to_represent
  fields_representable (field_measured a b) = represent_and (measured_representable a) (fields_representable b)

-- each of these has a measure
abbrev AllMeasured : List Data → List TypeTree → Substitution → Type 0
AllMeasured datas [] σ = Unit {0}
AllMeasured datas (f ∷ fs) σ = ((m : Measure) × Measured datas (sub f σ) m) × AllMeasured datas fs σ

fields_from : (datas : List Data) (fs gs : List TypeTree) (σ : Substitution) → AllMeasured datas (fs ++ gs) σ → ((m : Measure) × MeasuredFields datas fs σ m) × AllMeasured datas gs σ
fields_from datas [] gs σ a = ((fits 0, no_fields_measured), a)
fields_from datas (f ∷ fs) gs σ a =
    let w = fields_from datas fs gs σ a.1 in ((then_measure a.0.0 w.0.0, field_measured a.0.1 w.0.1), w.1)

cons_from : (datas : List Data) (cs : List ConDecl) (σ : Substitution) → AllMeasured datas (all_fields cs) σ → (m : Measure) × MeasuredCons datas cs σ m
cons_from datas [] σ a = (fits 0, no_cons_measured)
cons_from datas (c ∷ cs) σ a =
    let w = fields_from datas c.fields (all_fields cs) σ a in
    let v = cons_from datas cs σ w.1 in
    (or_measure w.0.0 v.0, con_measured w.0.1 v.1)

-- what is representable has a measure
mutual
  pub representable_measured : {datas : List Data} {t : TypeTree} → Representable datas t → (m : Measure) × Measured datas t m
  representable_measured (representable_scalar {w = w}) = (scalar_measure (closed_value w), measured_scalar)
  representable_measured (representable_vector {n = n} a) = let w = representable_measured a in (vector_measure (closed_value n) w.0, measured_vector w.1)
  representable_measured {datas} (representable_data {it = it} {ts = ts} known as_many a) =
      let w = cons_from datas it.cons (arguments ts) (all_representable_measured a) in (tagged_measure (tag_width (length it.cons)) w.0, measured_data known as_many w.1)

  all_representable_measured : {datas : List Data} {fs : List TypeTree} {σ : Substitution} → AllRepresentable datas fs σ → AllMeasured datas fs σ
  all_representable_measured none_to_represent = tt
  all_representable_measured (represent_and r a) = (representable_measured r, all_representable_measured a)

-- only limits are passed
abbrev pub IsLimit : Measure → Type 0
IsLimit (fits w) = Unit {0}
IsLimit (too_wide NotRepresentable) = ⊥
IsLimit (too_wide e) = Unit {0}

scalar_limit : (w : ℕ) (b : Bool) → IsLimit (if b then fits w else too_wide (OverScalar w))
scalar_limit w true = tt
scalar_limit w false = tt

data_limit : (w : ℕ) (b : Bool) → IsLimit (if b then fits w else too_wide (OverData w))
data_limit w true = tt
data_limit w false = tt

length_limit : (w n : ℕ) (b : Bool) → IsLimit (if b then data_measure w else too_wide (OverLength n))
length_limit w n true = data_limit w (nat_le w DATA_BITS)
length_limit w n false = tt

vector_limit : (n : ℕ) (m : Measure) → IsLimit m → IsLimit (vector_measure n m)
vector_limit n (fits w) h = length_limit (ended (n * w)) n (nat_le n VECTOR_LENGTH)
vector_limit n (too_wide e) h = h

tagged_limit : (n : ℕ) (m : Measure) → IsLimit m → IsLimit (tagged_measure n m)
tagged_limit n (fits w) h = data_limit (ended (n + w)) (nat_le (ended (n + w)) DATA_BITS)
tagged_limit n (too_wide e) h = h

then_limit : (m n : Measure) → IsLimit m → IsLimit n → IsLimit (then_measure m n)
then_limit (fits a) (fits b) h k = tt
then_limit (fits a) (too_wide e) h k = k
then_limit (too_wide e) n h k = h

or_limit : (m n : Measure) → IsLimit m → IsLimit n → IsLimit (or_measure m n)
or_limit (fits a) (fits b) h k = tt
or_limit (fits a) (too_wide e) h k = k
or_limit (too_wide e) n h k = h

mutual
  pub measured_limit : {datas : List Data} {t : TypeTree} {m : Measure} → Measured datas t m → IsLimit m
  measured_limit (measured_scalar {w = w}) = scalar_limit (closed_value w) (nat_le (closed_value w) SCALAR_BITS)
  measured_limit (measured_vector {n = n} {m = m} a) = vector_limit (closed_value n) m (measured_limit a)
  measured_limit (measured_data {it = it} {m = m} known as_many a) = tagged_limit (tag_width (length it.cons)) m (cons_limit a)

  cons_limit : {datas : List Data} {cs : List ConDecl} {σ : Substitution} {m : Measure} → MeasuredCons datas cs σ m → IsLimit m
  cons_limit no_cons_measured = tt
  cons_limit (con_measured {m = m} {n = n} a b) = or_limit m n (fields_limit a) (cons_limit b)

  fields_limit : {datas : List Data} {fs : List TypeTree} {σ : Substitution} {m : Measure} → MeasuredFields datas fs σ m → IsLimit m
  fields_limit no_fields_measured = tt
  fields_limit (field_measured {m = m} {n = n} a b) = then_limit m n (measured_limit a) (fields_limit b)

-- a width is at most this
abbrev pub IsWithin : ℕ → Measure → Type 0
IsWithin most (fits w) = w ≤ most
IsWithin most (too_wide e) = Unit {0}

scalar_within : (w : ℕ) (b : Bool) → (b ≡ true → w ≤ SCALAR_BITS) → IsWithin DATA_BITS (if b then fits w else too_wide (OverScalar w))
scalar_within w true h = let k = h refl in omega arith
scalar_within w false h = tt

data_within : (w : ℕ) (b : Bool) → (b ≡ true → w ≤ DATA_BITS) → IsWithin DATA_BITS (if b then fits w else too_wide (OverData w))
data_within w true h = h refl
data_within w false h = tt

length_within : (w n : ℕ) (b : Bool) → IsWithin DATA_BITS (if b then data_measure w else too_wide (OverLength n))
length_within w n true = data_within w (nat_le w DATA_BITS) (leb-true w DATA_BITS)
length_within w n false = tt

vector_within : (n : ℕ) (m : Measure) → IsWithin DATA_BITS (vector_measure n m)
vector_within n (fits w) = length_within (ended (n * w)) n (nat_le n VECTOR_LENGTH)
vector_within n (too_wide e) = tt

tagged_within : (n : ℕ) (m : Measure) → IsWithin DATA_BITS (tagged_measure n m)
tagged_within n (fits w) = data_within (ended (n + w)) (nat_le (ended (n + w)) DATA_BITS) (leb-true (ended (n + w)) DATA_BITS)
tagged_within n (too_wide e) = tt

pub measured_within : {datas : List Data} {t : TypeTree} {m : Measure} → Measured datas t m → IsWithin DATA_BITS m
measured_within (measured_scalar {w = w}) = scalar_within (closed_value w) (nat_le (closed_value w) SCALAR_BITS) (leb-true (closed_value w) SCALAR_BITS)
measured_within (measured_vector {n = n} {m = m} a) = vector_within (closed_value n) m
measured_within (measured_data {it = it} {m = m} known as_many a) = tagged_within (tag_width (length it.cons)) m

-- sums end
then_within : (m n : Measure) → IsWithin greatest m → IsWithin greatest n → IsWithin greatest (then_measure m n)
then_within (fits a) (fits b) h k = omega arith
then_within (fits a) (too_wide e) h k = tt
then_within (too_wide e) n h k = tt

within_more : (m : Measure) → IsWithin DATA_BITS m → IsWithin greatest m
within_more (fits w) h = omega arith
within_more (too_wide e) h = tt

pub fields_within : {datas : List Data} {fs : List TypeTree} {σ : Substitution} {m : Measure} → MeasuredFields datas fs σ m → IsWithin greatest m
fields_within no_fields_measured = omega arith
fields_within (field_measured {m = m} {n = n} a b) = then_within m n (within_more m (measured_within a)) (fields_within b)
