-- A zero of each representable type.
use Rattle.std.specs.Prelude.{false, replicate}
use Rattle.std.proofs.Common.{◌≡◌, ℕ, suc, zero, ◌<◌, refl, List, [], ◌∷◌, ◌++◌, length, arith}
use Rattle.std.specs.Prelude.{Some}
use Rattle.std.specs.List.{slice_get}
use Rattle.chw_types.specs.declared.declarations.ConDecl.{ConDecl}
use Rattle.chw_types.specs.declared.declarations.Data.{Data}
use Rattle.chw_types.specs.TypeTree.{TypeTree}
use Rattle.chw_types.specs.TypeMoves.{Substitution, sub}
use Rattle.chw_types.specs.Arguments.{arguments, all_fields}
use Rattle.type_ports.specs.Representable.{Representable, representable_scalar, representable_vector, representable_data, AllRepresentable, none_to_represent, represent_and}
use Rattle.chw_layout.specs.Datum.{Datum, word, built, elements, Datums, no_data, datum_and}
use Rattle.chw_layout.specs.Measured.{closed_value}
use Rattle.chw_layout.specs.Encodes.{first_constructor, HaveConstructors}
use Rattle.chw_meaning.specs.Zeros.{IsZero, zero_scalar, zero_vector, zero_data, AreZeros, no_zeros, zeros_and, AreZeroFields, no_zero_field, zero_field_and}

-- so many zeros of one type
zeros_of : {datas : List Data} {t : TypeTree} {z : Datum} → IsZero datas t z → (n : ℕ) → (ds : Datums) × AreZeros datas n t ds
zeros_of z zero = (no_data, no_zeros)
zeros_of {z = d} z (suc n) = let more = zeros_of z n in (datum_and d more.0, zeros_and z more.1)

-- each of these types has a zero, with this put in
abbrev AllHaveZeros : List Data → List TypeTree → Substitution → Type 0
AllHaveZeros datas [] σ = Unit {0}
AllHaveZeros datas (f ∷ fs) σ = ((z : Datum) × IsZero datas (sub f σ) z) × AllHaveZeros datas fs σ

zeros_before : (datas : List Data) (fs gs : List TypeTree) (σ : Substitution) → AllHaveZeros datas (fs ++ gs) σ → (ds : Datums) × AreZeroFields datas fs σ ds
zeros_before datas [] gs σ h = (no_data, no_zero_field)
zeros_before datas (f ∷ fs) gs σ h =
    let more = zeros_before datas fs gs σ h.1 in (datum_and h.0.0 more.0, zero_field_and h.0.1 more.1)

-- the first constructor with a zero for each field
record FirstZero (datas : List Data) (cs : List ConDecl) (σ : Substitution) : Type 0 where
  con : ConDecl
  first : slice_get cs zero ≡ Some con
  fields : Datums
  zeros : AreZeroFields datas con.fields σ fields

first_zero : (datas : List Data) (cs : List ConDecl) (σ : Substitution) → 0 < length cs → AllHaveZeros datas (all_fields cs) σ → FirstZero datas cs σ
first_zero datas [] σ l h = absurd (omega arith)
first_zero datas (c ∷ cs) σ l h =
    let of = zeros_before datas c.fields (all_fields cs) σ h in record { con = c; first = refl; fields = of.0; zeros = of.1 }

mutual
  pub zero_there : {datas : List Data} {t : TypeTree} → HaveConstructors datas → Representable datas t → (z : Datum) × IsZero datas t z
  zero_there some (representable_scalar {w = w}) = (word (replicate (closed_value w) false), zero_scalar)
  zero_there some (representable_vector {n = n} a) =
      let z = zero_there some a in let all = zeros_of z.1 (closed_value n) in (elements all.0, zero_vector all.1)
  zero_there {datas} some (representable_data {d = d} {it = it} {ts = ts} known as_many a) =
      let z = first_zero datas it.cons (arguments ts) (some d it known) (zeros_there some a) in
      (built (first_constructor datas d) z.fields, zero_data known z.first z.zeros)

  zeros_there : {datas : List Data} {fs : List TypeTree} {σ : Substitution} → HaveConstructors datas → AllRepresentable datas fs σ → AllHaveZeros datas fs σ
  zeros_there some none_to_represent = tt
  zeros_there some (represent_and a b) = (zero_there some a, zeros_there some b)
