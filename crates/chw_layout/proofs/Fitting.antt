-- What the width of a whole says of the widths of its parts.
use Rattle.std.proofs.Common.{◌≡◌, ℕ, suc, zero, ◌+◌, ◌*◌, ◌≤◌, Bool, true, false, refl, subst, List, [], ◌∷◌, length, arith}
use Rattle.std.specs.Prelude.{if◌then◌else◌, nat_le, max, Some}
use Rattle.std.specs.List.{slice_get}
use Rattle.std.proofs.lemmas.Bool.{leb-true}
use Rattle.chw_base.specs.declared.limits.TheConstants.{DATA_BITS, SCALAR_BITS, VECTOR_LENGTH}
use Rattle.chw_types.specs.declared.kind.Scalar.{Scalar}
use Rattle.chw_types.specs.declared.declarations.ConDecl.{ConDecl}
use Rattle.chw_types.specs.declared.declarations.Data.{Data}
use Rattle.chw_types.specs.TypeTree.{TypeTree, scalar, vector, data_of, TypeTrees}
use Rattle.chw_types.specs.TypeMoves.{Substitution, sub}
use Rattle.chw_types.specs.Arguments.{arguments}
use Rattle.chw_types.specs.Polynomials.{ended}
use Rattle.chw_layout.specs.declared.outcome.NoLayout.TheVariants.{Scalar as OverScalar, Data as OverData, Length as OverLength}
use Rattle.chw_layout.specs.Measured.{Measure, fits, too_wide, closed_value, tag_width, data_measure, vector_measure, then_measure, or_measure, tagged_measure, Measured, MeasuredCons, MeasuredFields, HasWidth}
use Rattle.chw_layout.proofs.Measures.{scalar_measured, vector_measured, known_measured, next_field, next_con}

fits_same : (a b : ℕ) → fits a ≡ fits b → a ≡ b
fits_same a b e = cc

-- both parts of fields have widths
pub record Summed (m n : Measure) (s : ℕ) : Type 0 where
  pub a : ℕ
  pub b : ℕ
  pub one : m ≡ fits a
  pub others : n ≡ fits b
  pub is : s ≡ ended (a + b)

pub then_fits : (m n : Measure) (s : ℕ) → fits s ≡ then_measure m n → Summed m n s
then_fits (fits a) (fits b) s e = record { a = a; b = b; one = refl; others = refl; is = fits_same s (ended (a + b)) e }
then_fits (fits a) (too_wide x) s e = absurd (cc)
then_fits (too_wide x) n s e = absurd (cc)

-- both parts of constructors have widths
pub record Widest (m n : Measure) (s : ℕ) : Type 0 where
  pub a : ℕ
  pub b : ℕ
  pub one : m ≡ fits a
  pub others : n ≡ fits b
  pub is : s ≡ max a b

pub or_fits : (m n : Measure) (s : ℕ) → fits s ≡ or_measure m n → Widest m n s
or_fits (fits a) (fits b) s e = record { a = a; b = b; one = refl; others = refl; is = fits_same s (max a b) e }
or_fits (fits a) (too_wide x) s e = absurd (cc)
or_fits (too_wide x) n s e = absurd (cc)

if_data : (x w : ℕ) (b : Bool) → (b ≡ true → x ≤ DATA_BITS) → fits w ≡ (if b then fits x else too_wide (OverData x)) → (w ≡ x) × (x ≤ DATA_BITS)
if_data x w true h e = (fits_same w x e, h refl)
if_data x w false h e = absurd (cc)

pub if_scalar : (x w : ℕ) (b : Bool) → fits w ≡ (if b then fits x else too_wide (OverScalar x)) → w ≡ x
if_scalar x w true e = fits_same w x e
if_scalar x w false e = absurd (cc)

if_length : (x n w : ℕ) (b : Bool) → fits w ≡ (if b then data_measure x else too_wide (OverLength n)) → (w ≡ x) × (x ≤ DATA_BITS)
if_length x n w true e = if_data x w (nat_le x DATA_BITS) (leb-true x DATA_BITS) e
if_length x n w false e = absurd (cc)

-- the widest constructor has a width
pub record Tagged (tag : ℕ) (m : Measure) (w : ℕ) : Type 0 where
  pub a : ℕ
  pub inner : m ≡ fits a
  pub is : w ≡ tag + a
  pub within : w ≤ DATA_BITS

pub tagged_fits : (tag : ℕ) (m : Measure) (w : ℕ) → fits w ≡ tagged_measure tag m → Tagged tag m w
tagged_fits tag (fits a) w e =
    let h = if_data (ended (tag + a)) w (nat_le (ended (tag + a)) DATA_BITS) (leb-true (ended (tag + a)) DATA_BITS) e in
    record { a = a; inner = refl; is = omega (arith, h.0, h.1); within = omega (arith, h.0, h.1) }
tagged_fits tag (too_wide x) w e = absurd (cc)

-- the element of a vector has a width
pub record Repeated (n : ℕ) (m : Measure) (w : ℕ) : Type 0 where
  pub a : ℕ
  pub inner : m ≡ fits a
  pub is : w ≡ n * a
  pub within : w ≤ DATA_BITS

pub not_ended : (x w : ℕ) → w ≡ ended x → ended x ≤ DATA_BITS → w ≡ x
not_ended x w e l = omega arith

pub vector_fits : (n : ℕ) (m : Measure) (w : ℕ) → fits w ≡ vector_measure n m → Repeated n m w
vector_fits n (fits a) w e =
    let h = if_length (ended (n * a)) n w (nat_le n VECTOR_LENGTH) e in
    record { a = a; inner = refl; is = not_ended (n * a) w h.0 h.1; within = omega (arith, h.0, h.1) }
vector_fits n (too_wide x) w e = absurd (cc)

pub scalar_width : {datas : List Data} {s : Scalar} {x : TypeTree} {w : ℕ} → HasWidth datas (scalar s x) w → w ≡ closed_value x
scalar_width {x = x} {w = w} d = if_scalar (closed_value x) w (nat_le (closed_value x) SCALAR_BITS) (scalar_measured d)

-- the elements' width
pub record ElementWidth (datas : List Data) (n t : TypeTree) (w : ℕ) : Type 0 where
  pub a : ℕ
  pub element : HasWidth datas t a
  pub is : w ≡ closed_value n * a

pub element_width : {datas : List Data} {n t : TypeTree} {w : ℕ} → HasWidth datas (vector n t) w → ElementWidth datas n t w
element_width {datas} {n} {t} {w} d =
    let v = vector_measured d in
    let h = vector_fits (closed_value n) v.of w v.is in
    record { a = h.a; element = subst (Measured datas t) h.inner v.measured; is = h.is }

-- the widths of the fields together, the tag apart
pub record ConsWidth (datas : List Data) (it : Data) (ts : TypeTrees) (w : ℕ) : Type 0 where
  pub a : ℕ
  pub cons : MeasuredCons datas it.cons (arguments ts) (fits a)
  pub is : w ≡ tag_width (length it.cons) + a
  pub within : w ≤ DATA_BITS

pub cons_width : {datas : List Data} {d : ℕ} {ts : TypeTrees} {w : ℕ} (it : Data) → slice_get datas d ≡ Some it → HasWidth datas (data_of d ts) w → ConsWidth datas it ts w
cons_width {datas} {d} {ts} {w} it known e =
    let v = known_measured it known e in
    let h = tagged_fits (tag_width (length it.cons)) v.of w v.is in
    record { a = h.a; cons = subst (MeasuredCons datas it.cons (arguments ts)) h.inner v.measured; is = h.is; within = h.within }

-- a constructor's fields have a width, at most the widest
pub record FieldsWidth (datas : List Data) (fs : List TypeTree) (σ : Substitution) (most : ℕ) : Type 0 where
  pub s : ℕ
  pub fields : MeasuredFields datas fs σ (fits s)
  pub within : s ≤ most

pub con_width : {datas : List Data} {σ : Substitution} (cs : List ConDecl) (i : ℕ) (c : ConDecl) {a : ℕ} → slice_get cs i ≡ Some c → MeasuredCons datas cs σ (fits a) → FieldsWidth datas c.fields σ a
con_width [] i c e d = absurd (cc)
con_width {datas} {σ} (x ∷ cs) zero c {a} e d =
    let v = next_con d in
    let h = or_fits v.one v.others a v.is in
    let same : x ≡ c = cc in
    record { s = h.a; fields = subst (λ y. MeasuredFields datas y.fields σ (fits h.a)) same (subst (MeasuredFields datas x.fields σ) h.one v.first); within = omega (arith, h.is) }
con_width {datas} {σ} (x ∷ cs) (suc i) c {a} e d =
    let v = next_con d in
    let h = or_fits v.one v.others a v.is in
    let w = con_width cs i c {a = h.b} e (subst (MeasuredCons datas cs σ) h.others v.rest) in
    record { s = w.s; fields = w.fields; within = omega (arith, h.is, w.within) }

-- the first field and those after it
pub record FirstWidth (datas : List Data) (f : TypeTree) (fs : List TypeTree) (σ : Substitution) (s : ℕ) : Type 0 where
  pub a : ℕ
  pub b : ℕ
  pub first : HasWidth datas (sub f σ) a
  pub rest : MeasuredFields datas fs σ (fits b)
  pub is : s ≡ a + b

pub field_width : {datas : List Data} {f : TypeTree} {fs : List TypeTree} {σ : Substitution} {s : ℕ} → s ≤ DATA_BITS → MeasuredFields datas (f ∷ fs) σ (fits s) → FirstWidth datas f fs σ s
field_width {datas} {f} {fs} {σ} {s} l d =
    let v = next_field d in
    let h = then_fits v.one v.others s v.is in
    record { a = h.a; b = h.b; first = subst (Measured datas (sub f σ)) h.one v.first; rest = subst (MeasuredFields datas fs σ) h.others v.rest; is = not_ended (h.a + h.b) s h.is (subst (λ x. x ≤ DATA_BITS) h.is l) }
