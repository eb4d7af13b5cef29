-- What lines of primitives on words take and give: words of their parameters' types, and a word or a truth value.
use Rattle.std.specs.Prelude.{slice_index}
use Rattle.std.proofs.Common.{◌≡◌, ◌≤◌, ◌<◌, ℕ, ◌+◌, Bool, true, false, List, [], ◌∷◌, ◌++◌, length, map, Some, refl, sym, ap, ◌∙◌, subst, arith}
use Rattle.std.proofs.lemmas.List.{length-map}
use Rattle.chw_base.specs.declared.limits.TheConstants.{SCALAR_BITS}
use Rattle.chw_types.specs.declared.declarations.Data.{Data}
use Rattle.chw_types.specs.declared.kind.Scalar.{Scalar}
use Rattle.chw_types.specs.declared.kind.Scalar.TheVariants.{B}
use Rattle.chw_types.specs.Arguments.{arguments}
use Rattle.chw_types.specs.BuiltIn.{built_in}
use Rattle.chw_types.specs.SamePromises.{SameValues, natural_value}
use Rattle.chw_types.specs.SameTypes.{SameTypes, same_none}
use Rattle.chw_types.specs.TypeMoves.{Substitution, sub}
use Rattle.chw_types.specs.TypeTree.{TypeTree, TypeTrees, no_types, nat_sum, scalar, data_of}
use Rattle.chw_types.specs.TypeView.{trees_of}
use Rattle.chw_types.specs.SameTypes.{SameAll}
use Rattle.chw_prims.specs.declared.row.Row.{Row}
use Rattle.chw_prims.specs.declared.row.Row.TheVariants.{Binary, WideSum, WideProduct, Unary, Shift, Compare, Extend, Truncate, Cut, Joined, Reduce, Packed, Unpacked}
use Rattle.chw_prims.specs.Schemas.{bool}
use Rattle.prim_bits.specs.Widths.{argument_widths, result_width}
use Rattle.rewriting.specs.Spots.{IsRowOnWords}
use Rattle.chw_layout.specs.Measured.{closed_value, HasWidth}
use Rattle.carrying.specs.WordLaws.{is_test}
use Rattle.net_grounds.specs.Facts.{Facts}
use Rattle.net_means.proofs.WordRows.{scalar_within, kinds_of, params_of, result_of, one_type, two_types, three_types}

-- words of types of scalars, each as wide as its type
pub data FitWords : List TypeTree → List (List Bool) → Type 0 where
  fit_none : FitWords [] []
  fit_and : {s : Scalar} {n : TypeTree} {ts : List TypeTree} {b : List Bool} {bs : List (List Bool)} → length b ≡ closed_value n → closed_value n ≤ SCALAR_BITS → FitWords ts bs → FitWords (scalar s n ∷ ts) (b ∷ bs)

record OneFit (n : TypeTree) (bs : List (List Bool)) : Type 0 where
  widths : closed_value n ∷ [] ≡ map length bs
  small : closed_value n ≤ SCALAR_BITS

one_fit : {s : Scalar} {n : TypeTree} {bs : List (List Bool)} → FitWords (scalar s n ∷ []) bs → OneFit n bs
one_fit (fit_and e l fit_none) = record { widths = λ i. sym e i ∷ []; small = l }

record TwoFit (n m : TypeTree) (bs : List (List Bool)) : Type 0 where
  widths : closed_value n ∷ closed_value m ∷ [] ≡ map length bs

two_fit : {s r : Scalar} {n m : TypeTree} {bs : List (List Bool)} → FitWords (scalar s n ∷ scalar r m ∷ []) bs → TwoFit n m bs
two_fit (fit_and e l (fit_and f k fit_none)) = record { widths = λ i. sym e i ∷ sym f i ∷ [] }

-- the result is a word or a truth value, of this width
abbrev pub ResultWide : TypeTree → ℕ → Type 0
ResultWide (scalar s n) w = (closed_value n ≡ w) × (w ≤ SCALAR_BITS)
ResultWide (data_of d ts) w = w ≡ 1
ResultWide _ w = ⊥

pub data Outcome (row : Row) : TypeTree → Type 0 where
  gives_word : {s : Scalar} {n : TypeTree} → is_test row ≡ false → Outcome row (scalar s n)
  gives_truth : is_test row ≡ true → Outcome row bool

-- its parameters are words
pub data AreScalars : List TypeTree → Type 0 where
  no_scalar : AreScalars []
  scalar_and : {s : Scalar} {n : TypeTree} {ts : List TypeTree} → AreScalars ts → AreScalars (scalar s n ∷ ts)

pub params_scalars : (row : Row) → IsRowOnWords row → (σ : Substitution) → AreScalars (map (λ p. sub p σ) (params_of row))
unfolding sub
params_scalars (Binary x) on σ = scalar_and (scalar_and no_scalar)
params_scalars (WideSum x) on σ = scalar_and (scalar_and no_scalar)
params_scalars (WideProduct x) on σ = scalar_and (scalar_and no_scalar)
params_scalars (Unary x) on σ = scalar_and no_scalar
params_scalars (Shift x) on σ = scalar_and (scalar_and no_scalar)
params_scalars (Compare x) on σ = scalar_and (scalar_and no_scalar)
params_scalars (Extend x) on σ = scalar_and no_scalar
params_scalars (Truncate x) on σ = scalar_and no_scalar
params_scalars Cut on σ = scalar_and no_scalar
params_scalars Joined on σ = scalar_and (scalar_and no_scalar)
params_scalars Reduce on σ = scalar_and no_scalar
params_scalars (Packed x) on σ = scalar_and no_scalar
params_scalars (Unpacked x) on σ = scalar_and no_scalar
params_scalars _ on σ = absurd on

-- it has parameters
pub params_some : (row : Row) → IsRowOnWords row → (types : List TypeTree) → 0 < length (map (λ p. sub p (arguments (trees_of types))) (params_of row))
params_some row on types = scalars_some row on (length-map (params_of row) (λ p. sub p (arguments (trees_of types))))
  where
    some : (row : Row) → IsRowOnWords row → 0 < length (params_of row)
    some (Binary x) on = omega arith
    some (WideSum x) on = omega arith
    some (WideProduct x) on = omega arith
    some (Unary x) on = omega arith
    some (Shift x) on = omega arith
    some (Compare x) on = omega arith
    some (Extend x) on = omega arith
    some (Truncate x) on = omega arith
    some Cut on = omega arith
    some Joined on = omega arith
    some Reduce on = omega arith
    some (Packed x) on = omega arith
    some (Unpacked x) on = omega arith
    some _ on = absurd on

    scalars_some : {n : ℕ} (row : Row) → IsRowOnWords row → n ≡ length (params_of row) → 0 < n
    scalars_some row on e = let l = some row on in omega (arith, e, l)

-- the result's type, and each type that is the same and has a width
module _ (facts : Facts) (values : SameValues) (datas others : List Data) (begins : datas ≡ built_in ++ others) where
  word_outcome : (row : Row) (s : Scalar) (n t : TypeTree) (w : ℕ) → is_test row ≡ false → SameTypes (scalar s n) t → HasWidth datas t w → Outcome row t × ((closed_value n ≡ w) × (w ≤ SCALAR_BITS))
  word_outcome row s n t w plain same has =
      let at = facts.same.as_scalar same in
      let wide : HasWidth datas (scalar s at.0) w = subst (λ t. HasWidth datas t w) at.1 has in
      let number = facts.same_layout.same_number values at.2 in
      let width = facts.widths.scalar_width wide in
      let within = scalar_within facts wide in
      (subst (Outcome row) (sym at.1) (gives_word plain), (number ∙ sym width, omega (arith, width, within)))

  truth_outcome : (row : Row) (t : TypeTree) (w : ℕ) → is_test row ≡ true → SameTypes bool t → HasWidth datas t w → Outcome row t × (w ≡ 1)
  truth_outcome row t w test same has =
      let at = facts.same.as_data same in
      let is : t ≡ bool = at.1 ∙ ap (data_of 0) (none_alone at.2) in
      (subst (Outcome row) (sym is) (gives_truth test), facts.widths.width_once (subst (λ t. HasWidth datas t w) is has) (facts.prims.bool_width datas others begins))
    where
      none_alone : {us : TypeTrees} → SameAll no_types us → us ≡ no_types
      none_alone same_none = refl

  pub outcome : (row : Row) → IsRowOnWords row → (σ : Substitution) (t : TypeTree) (w : ℕ) → SameTypes (sub (result_of row) σ) t → HasWidth datas t w → Outcome row t × ResultWide (sub (result_of row) σ) w
  unfolding sub
  outcome (Binary x) on σ t w same has = word_outcome (Binary x) x _ t w refl same has
  outcome (WideSum x) on σ t w same has = word_outcome (WideSum x) x _ t w refl same has
  outcome (WideProduct x) on σ t w same has = word_outcome (WideProduct x) x _ t w refl same has
  outcome (Unary x) on σ t w same has = word_outcome (Unary x) x _ t w refl same has
  outcome (Shift x) on σ t w same has = word_outcome (Shift x) x _ t w refl same has
  outcome (Compare x) on σ t w same has = truth_outcome (Compare x) t w refl same has
  outcome (Extend x) on σ t w same has = word_outcome (Extend x) x _ t w refl same has
  outcome (Truncate x) on σ t w same has = word_outcome (Truncate x) x _ t w refl same has
  outcome Cut on σ t w same has = word_outcome Cut B _ t w refl same has
  outcome Joined on σ t w same has = word_outcome Joined B _ t w refl same has
  outcome Reduce on σ t w same has = truth_outcome Reduce t w refl same has
  outcome (Packed x) on σ t w same has = word_outcome (Packed x) B _ t w refl same has
  outcome (Unpacked x) on σ t w same has = word_outcome (Unpacked x) x _ t w refl same has
  outcome _ on σ t w same has = absurd on

-- the line takes the words, and gives one of this width
pub record WordTaken (row : Row) (types : List TypeTree) (bs : List (List Bool)) (w : ℕ) : Type 0 where
  pub takes : argument_widths row (map closed_value types) ≡ Some (map length bs)
  pub width : result_width row (slice_index (map closed_value types) 0) (slice_index (map closed_value types) 1) ≡ w

abbrev Taking : Row → List TypeTree → Type 0
Taking row types = (bs : List (List Bool)) (w : ℕ) → FitWords (map (λ p. sub p (arguments (trees_of types))) (params_of row)) bs → ResultWide (sub (result_of row) (arguments (trees_of types))) w → WordTaken row types bs w

some_list : {xs ys : List ℕ} → xs ≡ ys → Some xs ≡ Some ys
some_list e = ap (λ ws. Some ws) e

pub taken : (row : Row) → IsRowOnWords row → (types : List TypeTree) → length types ≡ length (kinds_of row) → Taking row types
unfolding sub natural_value
taken (Binary x) on = one_type (Taking (Binary x)) (λ n bs w fit wide. record { takes = some_list (two_fit fit).widths; width = wide.0 })
taken (WideSum x) on = one_type (Taking (WideSum x)) (λ n bs w fit wide. record { takes = some_list (two_fit fit).widths; width = let e = wide.0 in let l = wide.1 in omega (arith, e, l) })
taken (WideProduct x) on = two_types (Taking (WideProduct x)) (λ n m bs w fit wide. record { takes = some_list (two_fit fit).widths; width = let e = wide.0 in let l = wide.1 in omega (arith, e, l) })
taken (Unary x) on = one_type (Taking (Unary x)) (λ n bs w fit wide. record { takes = some_list (one_fit fit).widths; width = wide.0 })
taken (Shift x) on = two_types (Taking (Shift x)) (λ n m bs w fit wide. record { takes = some_list (two_fit fit).widths; width = wide.0 })
taken (Compare x) on = one_type (Taking (Compare x)) (λ n bs w fit wide. record { takes = some_list (two_fit fit).widths; width = sym wide })
taken (Extend x) on = two_types (Taking (Extend x)) (λ n m bs w fit wide. record { takes = some_list (one_fit fit).widths; width = let e = wide.0 in let l = wide.1 in omega (arith, e, l) })
taken (Truncate x) on = two_types (Taking (Truncate x))
    (λ n m bs w fit wide.
    let one = one_fit fit in
    let small = one.small in
    let sum : closed_value n + closed_value m ≡ closed_value (nat_sum n m) = omega (arith, small) in
    record { takes = some_list (ap (λ k. k ∷ []) sum ∙ one.widths); width = wide.0 })
taken Cut on = three_types (Taking Cut)
    (λ l n u bs w fit wide.
    let one = one_fit fit in
    let small = one.small in
    let sum : closed_value u + closed_value n + closed_value l ≡ closed_value (nat_sum (nat_sum u n) l) = omega (arith, small) in
    record { takes = some_list (ap (λ k. k ∷ []) sum ∙ one.widths); width = wide.0 })
taken Joined on = two_types (Taking Joined) (λ n m bs w fit wide. record { takes = some_list (two_fit fit).widths; width = let e = wide.0 in let l = wide.1 in omega (arith, e, l) })
taken Reduce on = one_type (Taking Reduce) (λ n bs w fit wide. record { takes = some_list (one_fit fit).widths; width = sym wide })
taken (Packed x) on = one_type (Taking (Packed x)) (λ n bs w fit wide. record { takes = some_list (one_fit fit).widths; width = wide.0 })
taken (Unpacked x) on = one_type (Taking (Unpacked x)) (λ n bs w fit wide. record { takes = some_list (one_fit fit).widths; width = wide.0 })
taken _ on = absurd on
