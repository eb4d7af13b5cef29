-- The tests by which a primitive is found to be one that can be unrolled.
use Rattle.std.specs.Prelude.{ℕ, Bool, false, ◌&&◌, ◌==◌, nat_le, List, map, length, Option, Some, None, is_some}
use Rattle.std.specs.List.{list_all}
use Rattle.chw_base.specs.declared.limits.TheConstants.{SCALAR_BITS, VECTOR_LENGTH}
use Rattle.chw_types.specs.TypeTree.{TypeTree}
use Rattle.chw_prims.specs.Schemas.{row_of, schema_type}
use Rattle.chw_prims.specs.declared.prim.Primitive.{Primitive as Prim}
use Rattle.chw_prims.specs.declared.row.Row.{Row}
use Rattle.chw_prims.specs.declared.row.Row.TheVariants.{ElementAt, Replaced, Mapped, Zipped, FoldedLeft, FoldedRight, Generated, Replicated, Appended, Concatenated, Taken, Dropped, Reversed, Rotated}
use Rattle.chw_terms.specs.TermTree.{TermTree, var}
use Rattle.chw_terms.specs.Evaluated.{numeral, evaluated}
use Rattle.chw_terms.specs.Unrolled.{body_of, sized_1, sized_2, sized_3, twice_sized, parameters, at_types, lengths_in, widths_in}
use Rattle.prim_vec.specs.declared.conditions.Shape.{Shape}
use Rattle.prim_vec.specs.declared.conditions.Shape.TheVariants.{One, Two, Three, Twice, Unshaped}

-- which types the primitives of a line take
abbrev pub shape_of : Row → Shape
shape_of (Replicated kind) = One
shape_of (Reversed kind) = One
shape_of (Mapped kind) = Two
shape_of (FoldedLeft kind) = Two
shape_of (FoldedRight kind) = Two
shape_of (Zipped kind) = Three
shape_of (Generated kind) = Twice
shape_of (Appended kind) = Twice
shape_of (Concatenated kind) = Twice
shape_of (Taken kind) = Twice
shape_of (Dropped kind) = Twice
shape_of (Rotated kind) = Twice
shape_of Replaced = Twice
shape_of ElementAt = Twice
shape_of _ = Unshaped

-- these types are so
abbrev pub has_shape : Shape → List TypeTree → Bool
has_shape One ts = is_some (sized_1 ts (λ n a. var 0))
has_shape Two ts = is_some (sized_2 ts (λ n a b. var 0))
has_shape Three ts = is_some (sized_3 ts (λ n a b c. var 0))
has_shape Twice ts = is_some (twice_sized ts (λ n m a. var 0))
has_shape Unshaped ts = false

abbrev pub number_up_to : ℕ → Option ℕ → Bool
number_up_to most None = false
number_up_to most (Some n) = nat_le n most

-- a numeral that is at most this
abbrev pub is_up_to : ℕ → TypeTree → Bool
is_up_to most t = number_up_to most (numeral t)

-- a primitive that is unrolled, with all its arguments, within the limits
abbrev pub can_unroll : Prim → List TypeTree → List TermTree → Bool
can_unroll p types args =
    is_some (body_of (row_of p) (map evaluated types))
    && ((length args == length (parameters (schema_type p)))
    && (list_all (λ n. is_up_to VECTOR_LENGTH (at_types types n)) (lengths_in (schema_type p))
    && list_all (λ k. is_up_to SCALAR_BITS (at_types types k)) (widths_in (schema_type p))))
