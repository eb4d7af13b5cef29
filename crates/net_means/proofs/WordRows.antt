-- The lines of primitives on words: which kinds each asks for, its parameters and its result.
use Rattle.std.specs.Prelude.{nat_le, if◌then◌else◌}
use Rattle.std.proofs.Common.{◌≡◌, ◌≤◌, ℕ, ◌+◌, Bool, true, false, List, [], ◌∷◌, length, refl, arith}
use Rattle.std.proofs.lemmas.Bool.{leb-true}
use Rattle.chw_base.specs.declared.limits.TheConstants.{SCALAR_BITS}
use Rattle.chw_types.specs.declared.declarations.Data.{Data}
use Rattle.chw_types.specs.declared.kind.Kind.{Kind}
use Rattle.chw_types.specs.declared.kind.Kind.TheVariants.{Nat}
use Rattle.chw_types.specs.declared.kind.Scalar.{Scalar}
use Rattle.chw_types.specs.declared.kind.Scalar.TheVariants.{U, B}
use Rattle.chw_types.specs.TypeTree.{TypeTree, ty_var, nat_lit, nat_sum, scalar}
use Rattle.chw_prims.specs.declared.row.Row.{Row}
use Rattle.chw_prims.specs.declared.row.Row.TheVariants.{Binary, WideSum, WideProduct, Unary, Shift, Compare, Extend, Truncate, Cut, Joined, Reduce, Packed, Unpacked}
use Rattle.chw_prims.specs.Schemas.{bool, row_type}
use Rattle.chw_typing.specs.HeadTypes.{for_each, from_each}
use Rattle.rewriting.specs.Spots.{asked_for, IsRowOnWords}
use Rattle.chw_layout.specs.declared.outcome.NoLayout.TheVariants.{Scalar as OverScalar}
use Rattle.chw_layout.specs.Measured.{fits, too_wide, closed_value, HasWidth}
use Rattle.net_grounds.specs.Facts.{Facts}

-- a scalar with a width is within the limit
within_limit : (n : ℕ) (b : Bool) (w : ℕ) → (b ≡ true → n ≤ SCALAR_BITS) → fits w ≡ (if b then fits n else too_wide (OverScalar n)) → n ≤ SCALAR_BITS
within_limit n true w h e = h refl
within_limit n false w h e = absurd cc

pub scalar_within : Facts → {datas : List Data} {s : Scalar} {n : TypeTree} {w : ℕ} → HasWidth datas (scalar s n) w → closed_value n ≤ SCALAR_BITS
scalar_within facts {n = n} {w = w} has = within_limit (closed_value n) (nat_le (closed_value n) SCALAR_BITS) w (leb-true (closed_value n) SCALAR_BITS) (facts.measures.scalar_measured has)

-- a line: the kinds that it asks for, its parameters and its result
abbrev pub kinds_of : Row → List Kind
kinds_of (WideProduct x) = Nat ∷ Nat ∷ []
kinds_of (Shift x) = Nat ∷ Nat ∷ []
kinds_of (Extend x) = Nat ∷ Nat ∷ []
kinds_of (Truncate x) = Nat ∷ Nat ∷ []
kinds_of Joined = Nat ∷ Nat ∷ []
kinds_of Cut = Nat ∷ Nat ∷ Nat ∷ []
kinds_of _ = Nat ∷ []

abbrev pub params_of : Row → List TypeTree
params_of (Binary x) = scalar x (ty_var 0) ∷ scalar x (ty_var 0) ∷ []
params_of (WideSum x) = scalar x (ty_var 0) ∷ scalar x (ty_var 0) ∷ []
params_of (WideProduct x) = scalar x (ty_var 1) ∷ scalar x (ty_var 0) ∷ []
params_of (Unary x) = scalar x (ty_var 0) ∷ []
params_of (Shift x) = scalar x (ty_var 1) ∷ scalar U (ty_var 0) ∷ []
params_of (Compare x) = scalar x (ty_var 0) ∷ scalar x (ty_var 0) ∷ []
params_of (Extend x) = scalar x (ty_var 1) ∷ []
params_of (Truncate x) = scalar x (nat_sum (ty_var 1) (ty_var 0)) ∷ []
params_of Cut = scalar B (nat_sum (nat_sum (ty_var 0) (ty_var 1)) (ty_var 2)) ∷ []
params_of Joined = scalar B (ty_var 1) ∷ scalar B (ty_var 0) ∷ []
params_of Reduce = scalar B (ty_var 0) ∷ []
params_of (Packed x) = scalar x (ty_var 0) ∷ []
params_of (Unpacked x) = scalar B (ty_var 0) ∷ []
params_of _ = []

abbrev pub result_of : Row → TypeTree
result_of (Binary x) = scalar x (ty_var 0)
result_of (WideSum x) = scalar x (nat_sum (ty_var 0) (nat_lit 1))
result_of (WideProduct x) = scalar x (nat_sum (ty_var 1) (ty_var 0))
result_of (Unary x) = scalar x (ty_var 0)
result_of (Shift x) = scalar x (ty_var 1)
result_of (Compare x) = bool
result_of (Extend x) = scalar x (nat_sum (ty_var 1) (ty_var 0))
result_of (Truncate x) = scalar x (ty_var 1)
result_of Cut = scalar B (ty_var 1)
result_of Joined = scalar B (nat_sum (ty_var 1) (ty_var 0))
result_of Reduce = bool
result_of (Packed x) = scalar B (ty_var 0)
result_of (Unpacked x) = scalar x (ty_var 0)
result_of _ = bool

-- what the line's type is, and that it asks for no more
pub row_is : (row : Row) → IsRowOnWords row → (row_type row ≡ for_each (kinds_of row) (from_each (params_of row) (result_of row))) × (asked_for (row_type row) ≡ length (kinds_of row) + length (params_of row))
row_is (Binary x) on = (refl, refl)
row_is (WideSum x) on = (refl, refl)
row_is (WideProduct x) on = (refl, refl)
row_is (Unary x) on = (refl, refl)
row_is (Shift x) on = (refl, refl)
row_is (Compare x) on = (refl, refl)
row_is (Extend x) on = (refl, refl)
row_is (Truncate x) on = (refl, refl)
row_is Cut on = (refl, refl)
row_is Joined on = (refl, refl)
row_is Reduce on = (refl, refl)
row_is (Packed x) on = (refl, refl)
row_is (Unpacked x) on = (refl, refl)
row_is _ on = absurd on

pub one_type : (P : List TypeTree → Type 0) → ((n : TypeTree) → P (n ∷ [])) → (types : List TypeTree) → length types ≡ 1 → P types
one_type P f [] e = absurd (omega (arith, e))
one_type P f (n ∷ []) e = f n
one_type P f (n ∷ m ∷ r) e = absurd (omega (arith, e))

pub two_types : (P : List TypeTree → Type 0) → ((n m : TypeTree) → P (n ∷ m ∷ [])) → (types : List TypeTree) → length types ≡ 2 → P types
two_types P f [] e = absurd (omega (arith, e))
two_types P f (n ∷ []) e = absurd (omega (arith, e))
two_types P f (n ∷ m ∷ []) e = f n m
two_types P f (n ∷ m ∷ k ∷ r) e = absurd (omega (arith, e))

pub three_types : (P : List TypeTree → Type 0) → ((l n u : TypeTree) → P (l ∷ n ∷ u ∷ [])) → (types : List TypeTree) → length types ≡ 3 → P types
three_types P f [] e = absurd (omega (arith, e))
three_types P f (n ∷ []) e = absurd (omega (arith, e))
three_types P f (n ∷ m ∷ []) e = absurd (omega (arith, e))
three_types P f (l ∷ n ∷ u ∷ []) e = f l n u
three_types P f (l ∷ n ∷ u ∷ k ∷ r) e = absurd (omega (arith, e))
