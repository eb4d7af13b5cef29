-- How wide what lines of primitives on words give is.
use Rattle.std.specs.Prelude.{slice_index}
use Rattle.std.proofs.Common.{◌≡◌, ℕ, ◌+◌, arith, List, ◌++◌, length, map, refl, sym, subst}
use Rattle.chw_types.specs.declared.declarations.Data.{Data}
use Rattle.chw_types.specs.Arguments.{arguments}
use Rattle.chw_types.specs.BuiltIn.{built_in}
use Rattle.chw_types.specs.SamePromises.{natural_value}
use Rattle.chw_types.specs.TypeMoves.{sub}
use Rattle.chw_types.specs.TypeTree.{TypeTree}
use Rattle.chw_types.specs.TypeView.{trees_of}
use Rattle.chw_prims.specs.declared.row.Row.{Row}
use Rattle.chw_prims.specs.declared.row.Row.TheVariants.{Binary, WideSum, WideProduct, Unary, Shift, Compare, Extend, Truncate, Cut, Joined, Reduce, Packed, Unpacked}
use Rattle.chw_prims.specs.Schemas.{bool}
use Rattle.rewriting.specs.Spots.{IsRowOnWords}
use Rattle.chw_layout.specs.Measured.{closed_value, HasWidth, measured_data, no_cons_measured, con_measured, no_fields_measured}
use Rattle.net_grounds.specs.Facts.{Facts}
use Rattle.net_means.proofs.WordRows.{scalar_within, kinds_of, result_of, one_type, two_types, three_types}

bool_width : (datas others : List Data) → datas ≡ built_in ++ others → HasWidth datas bool 1
bool_width datas others e =
    subst (λ ds. HasWidth ds bool 1) (sym e) (measured_data refl refl (con_measured no_fields_measured (con_measured no_fields_measured no_cons_measured)))

-- how wide what it gives is, by its first two natural arguments
abbrev pub given_width : Row → (n m : ℕ) → ℕ
given_width (Binary x) n m = n
given_width (WideSum x) n m = n + 1
given_width (WideProduct x) n m = n + m
given_width (Unary x) n m = n
given_width (Shift x) n m = n
given_width (Extend x) n m = n + m
given_width (Truncate x) n m = n
given_width Cut n m = m
given_width Joined n m = n + m
given_width (Packed x) n m = n
given_width (Unpacked x) n m = n
given_width _ n m = 1

module _ (facts : Facts) (datas others : List Data) (begins : datas ≡ built_in ++ others) where
  abbrev Giving : Row → List TypeTree → Type 0
  Giving row types = (w : ℕ) → HasWidth datas (sub (result_of row) (arguments (trees_of types))) w → given_width row (slice_index (map closed_value types) 0) (slice_index (map closed_value types) 1) ≡ w

  -- the width of the result, where the line is at types
  pub row_gives : (row : Row) → IsRowOnWords row → (types : List TypeTree) → length types ≡ length (kinds_of row) → Giving row types
  unfolding sub natural_value
  row_gives (Binary x) on = one_type (Giving (Binary x)) (λ n w has. sym (facts.widths.scalar_width has))
  row_gives (WideSum x) on = one_type (Giving (WideSum x)) (λ n w has. let e = facts.widths.scalar_width has in let l = scalar_within facts has in omega (arith, e, l))
  row_gives (WideProduct x) on = two_types (Giving (WideProduct x)) (λ n m w has. let e = facts.widths.scalar_width has in let l = scalar_within facts has in omega (arith, e, l))
  row_gives (Unary x) on = one_type (Giving (Unary x)) (λ n w has. sym (facts.widths.scalar_width has))
  row_gives (Shift x) on = two_types (Giving (Shift x)) (λ n m w has. sym (facts.widths.scalar_width has))
  row_gives (Compare x) on = one_type (Giving (Compare x)) (λ n w has. facts.widths.width_once (bool_width datas others begins) has)
  row_gives (Extend x) on = two_types (Giving (Extend x)) (λ n m w has. let e = facts.widths.scalar_width has in let l = scalar_within facts has in omega (arith, e, l))
  row_gives (Truncate x) on = two_types (Giving (Truncate x)) (λ n m w has. sym (facts.widths.scalar_width has))
  row_gives Cut on = three_types (Giving Cut) (λ l n u w has. sym (facts.widths.scalar_width has))
  row_gives Joined on = two_types (Giving Joined) (λ n m w has. let e = facts.widths.scalar_width has in let l = scalar_within facts has in omega (arith, e, l))
  row_gives Reduce on = one_type (Giving Reduce) (λ n w has. facts.widths.width_once (bool_width datas others begins) has)
  row_gives (Packed x) on = one_type (Giving (Packed x)) (λ n w has. sym (facts.widths.scalar_width has))
  row_gives (Unpacked x) on = one_type (Giving (Unpacked x)) (λ n w has. sym (facts.widths.scalar_width has))
  row_gives _ on = absurd on
