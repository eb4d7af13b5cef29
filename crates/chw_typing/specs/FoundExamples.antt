-- Types that are found.
use Rattle.std.specs.Prelude.{List, [], ◌∷◌}
use Rattle.chw_types.specs.declared.kind.Kind.{Kind}
use Rattle.chw_types.specs.declared.kind.Kind.TheVariants.{Nat}
use Rattle.chw_types.specs.declared.kind.Scalar.TheVariants.{U}
use Rattle.chw_types.specs.TypeTree.{TypeTree, ty_var, scalar, data_of, fun, no_types, type_and}
use Rattle.chw_prims.specs.Schemas.{bool}
use Rattle.chw_terms.specs.TermTree.{TermTree, var, global, ty_app, case_of, no_alts, alt}
use Rattle.chw_typing.specs.Scopes.{Setting}
use Rattle.chw_typing.specs.Examples.{small, con_pattern, cube, padded_width, padded}
use Rattle.chw_typing.specs.Finding.{Finds}

-- with one definition f, of the type
-- `forall (n : Nat) . Unsigned (n + 0 * (n * n)) -> Unsigned (n + 0 * (n * n))`
abbrev pub with_padded : Setting
with_padded = record small { defs = padded ∷ [] }

-- a natural m is in scope
abbrev pub natural_m : List Kind
natural_m = Nat ∷ []

-- from words of this width to words of this width
abbrev pub between_words : TypeTree → TypeTree
between_words width = fun (scalar U width) (scalar U width)

-- `f @m` keeps its zeros: `m + 0 * (m * m)` has degree 2, and the type has a kind
abbrev pub ZerosKept : Type 0
ZerosKept =
    Finds with_padded natural_m [] (ty_app (global 0) (ty_var 0)) (between_words padded_width)

-- `f @(m * m * m)` loses them: as put, `0 * (m * m * m * (m * m * m))` has degree 6, and the type
-- has no kind
abbrev pub ZerosLeftOut : Type 0
ZerosLeftOut = Finds with_padded natural_m [] (ty_app (global 0) cube) (between_words cube)

-- `case p of { Pair x y -> x; }`, with p of the type `Pair (Unsigned (m + 0 * (m * m))) Bool`: the
-- name has the field's type as put
abbrev pub pair : TypeTree
pair = data_of 2 (type_and (scalar U padded_width) (type_and bool no_types))

abbrev pub first_of_pair : TermTree
first_of_pair = case_of (var 0) (alt (con_pattern 4 2) (var 1) no_alts)

abbrev pub NameOfAPattern : Type 0
NameOfAPattern = Finds small natural_m (pair ∷ []) first_of_pair (scalar U padded_width)
