-- How wide optional values and pairs are.
use Rattle.std.specs.Prelude.{codes}
use Rattle.std.proofs.Common.{◌≡◌, ℕ, suc, ◌+◌, ◌≤◌, arith, List, [], ◌∷◌, ◌++◌, Some, refl, sym, subst}
use Rattle.std.specs.List.{slice_get}
use Rattle.chw_base.specs.declared.limits.TheConstants.{DATA_BITS}
use Rattle.chw_types.specs.declared.declarations.Data.{Data}
use Rattle.chw_types.specs.declared.kind.Kind.TheVariants.{Val}
use Rattle.chw_types.specs.Arguments.{arguments}
use Rattle.chw_types.specs.BuiltIn.{built_in, constructor_of, data_type_of}
use Rattle.chw_types.specs.TypeMoves.{Substitution, sub}
use Rattle.chw_types.specs.TypeTree.{TypeTree, ty_var, no_types, type_and}
use Rattle.chw_prims.specs.Schemas.{maybe, pair}
use Rattle.chw_layout.specs.Measured.{fits, MeasuredCons, MeasuredFields, HasWidth}
use Rattle.net_grounds.specs.Facts.{Facts}

abbrev pub maybe_data : Data
maybe_data = data_type_of (codes "Maybe") (Val ∷ []) (constructor_of (codes "Nothing") [] ∷ constructor_of (codes "Just") (ty_var 0 ∷ []) ∷ [])

abbrev pub pair_data : Data
pair_data = data_type_of (codes "Pair") (Val ∷ Val ∷ []) (constructor_of (codes "Pair") (ty_var 1 ∷ ty_var 0 ∷ []) ∷ [])

-- where the built-in data types stand
pub record Stand (datas : List Data) : Type 0 where
  pub maybe_there : slice_get datas 1 ≡ Some maybe_data
  pub pair_there : slice_get datas 2 ≡ Some pair_data

pub stand : (datas others : List Data) → datas ≡ built_in ++ others → Stand datas
stand datas others e = subst Stand (sym e) (record { maybe_there = refl; pair_there = refl })

fits_zero : (n : ℕ) → fits n ≡ fits 0 → n ≡ 0
fits_zero n e = cc

-- the width of the only field, which has this type
single_field : Facts → {datas : List Data} {σ : Substitution} {s : ℕ} (f : TypeTree) → s ≤ DATA_BITS → MeasuredFields datas (f ∷ []) σ (fits s) → HasWidth datas (sub f σ) s
single_field facts {datas} {σ} f l m =
    let x = facts.widths.field_width l m in
    let rest = fits_zero x.b (facts.measures.no_fields x.rest) in
    let is = x.is in
    let same : x.a ≡ _ = omega (arith, rest, is) in
    subst (HasWidth datas (sub f σ)) same x.first

-- an optional value is one bit wider than the value
pub maybe_width : Facts → {datas : List Data} {t : TypeTree} {w : ℕ} → Stand datas → HasWidth datas (maybe t) w → (a : ℕ) × HasWidth datas t a × (w ≡ suc a)
unfolding sub
maybe_width facts {datas} {t} {w} at has =
    let c = facts.widths.cons_width maybe_data at.maybe_there has in
    let one = facts.measures.next_con c.cons in
    let first = facts.measures.or_fits one.one one.others c.a one.is in
    let none : first.a ≡ 0 = fits_zero first.a (facts.measures.no_fields (subst (MeasuredFields datas [] (arguments (type_and t no_types))) first.one one.first)) in
    let two = facts.measures.next_con (subst (MeasuredCons datas (constructor_of (codes "Just") (ty_var 0 ∷ []) ∷ []) (arguments (type_and t no_types))) first.others one.rest) in
    let second = facts.measures.or_fits two.one two.others first.b two.is in
    let last : second.b ≡ 0 = fits_zero second.b (facts.measures.no_cons (subst (MeasuredCons datas [] (arguments (type_and t no_types))) second.others two.rest)) in
    let is = c.is in
    let within = c.within in
    let most = first.is in
    let more = second.is in
    let fields = subst (MeasuredFields datas (ty_var 0 ∷ []) (arguments (type_and t no_types))) second.one two.first in
    (second.a, single_field facts {s = second.a} (ty_var 0) (omega (arith, is, within, most, more, none, last)) fields, omega (arith, is, most, more, none, last))

-- a pair is as wide as both together
pub pair_width : Facts → {datas : List Data} {t u : TypeTree} {w : ℕ} → Stand datas → HasWidth datas (pair t u) w → (a b : ℕ) × HasWidth datas t a × HasWidth datas u b × (w ≡ a + b)
unfolding sub
pair_width facts {datas} {t} {u} {w} at has =
    let σ : Substitution = arguments (type_and t (type_and u no_types)) in
    let c = facts.widths.cons_width pair_data at.pair_there has in
    let one = facts.measures.next_con c.cons in
    let first = facts.measures.or_fits one.one one.others c.a one.is in
    let last : first.b ≡ 0 = fits_zero first.b (facts.measures.no_cons (subst (MeasuredCons datas [] σ) first.others one.rest)) in
    let is = c.is in
    let within = c.within in
    let most = first.is in
    let small : first.a ≤ DATA_BITS = omega (arith, is, within, most) in
    let two = facts.widths.field_width small (subst (MeasuredFields datas (ty_var 1 ∷ ty_var 0 ∷ []) σ) first.one one.first) in
    let sum = two.is in
    (two.a, two.b, two.first, single_field facts {s = two.b} (ty_var 0) (omega (arith, small, sum)) two.rest, omega (arith, is, most, last, sum))
