-- Which arguments of data types have to be representable, as functions for the code. The relation is `Representable`.
use Rattle.std.specs.Prelude.{ℕ, suc, ◌==◌, Bool, true, false, ◌&&◌, if◌then◌else◌, nat_lt, List, [], ◌∷◌, length, Option, Some, None}
use Rattle.std.specs.List.{slice_get}
use Rattle.type_ports.specs.declared.rows.Row.{Row}
use Rattle.type_ports.specs.declared.rows.Row.TheVariants.{Unknown, Asks}
use Rattle.chw_types.specs.TypeTree.{TypeTree, ty_var, scalar, vector, data_of, TypeTrees, no_types, type_and}

abbrev pub unknown_row : Option Row → Bool
unknown_row (Some Unknown) = true
unknown_row _ = false

-- nothing is known of the data type
abbrev pub is_unknown : List Row → ℕ → Bool
is_unknown rows d = unknown_row (slice_get rows d)

-- of how many data types nothing is known
abbrev pub unknown_rows : List Row → ℕ
unknown_rows [] = 0
unknown_rows (Unknown ∷ rows) = suc (unknown_rows rows)
unknown_rows (_ ∷ rows) = unknown_rows rows

-- whether the data type is representable at some arguments
abbrev pub has_marks : Option Row → Bool
has_marks (Some (Asks marks)) = true
has_marks _ = false

-- the marks of a row, one for each argument
abbrev pub marks_of : Option Row → List Bool
marks_of (Some (Asks marks)) = marks.items
marks_of _ = []

-- the first of two that is there
abbrev pub first_of : Option ℕ → Option ℕ → Option ℕ
first_of (Some d) e = Some d
first_of None e = e

abbrev pub found_if : Bool → ℕ → Option ℕ
found_if true d = Some d
found_if false d = None

unfoldable mutual
  -- the first data type that the type stands on and of which nothing is known
  pub unknown_in : List Row → TypeTree → Option ℕ
  unknown_in rows (vector n t) = unknown_in rows t
  unknown_in rows (data_of d ts) = first_of (found_if (is_unknown rows d) d) (unknown_args rows ts)
  unknown_in rows _ = None

  pub unknown_args : List Row → TypeTrees → Option ℕ
  unknown_args rows no_types = None
  unknown_args rows (type_and t ts) = first_of (unknown_in rows t) (unknown_args rows ts)

abbrev pub unknown_among : List Row → List TypeTree → Option ℕ
unknown_among rows [] = None
unknown_among rows (t ∷ ts) = first_of (unknown_in rows t) (unknown_among rows ts)

-- the variable marked, of which the last place is the first
abbrev pub mark : ℕ → List Bool → List Bool
mark x [] = []
mark x (b ∷ marks) = if x == length marks then true ∷ marks else b ∷ mark x marks

unfoldable mutual
  -- the type is representable where so many variables are
  pub fits : List Row → ℕ → TypeTree → Bool
  fits rows n (ty_var x) = nat_lt x n
  fits rows n (scalar s w) = true
  fits rows n (vector m t) = fits rows n t
  fits rows n (data_of d ts) = has_marks (slice_get rows d) && fits_args rows n (marks_of (slice_get rows d)) ts
  fits rows n _ = false

  pub fits_args : List Row → ℕ → List Bool → TypeTrees → Bool
  fits_args rows n [] no_types = true
  fits_args rows n (true ∷ marks) (type_and t ts) = fits rows n t && fits_args rows n marks ts
  fits_args rows n (false ∷ marks) (type_and t ts) = fits_args rows n marks ts
  fits_args rows n _ _ = false

unfoldable mutual
  -- with marks at the variables that have to be representable for the type to be
  pub marked : List Row → TypeTree → List Bool → List Bool
  marked rows (ty_var x) marks = mark x marks
  marked rows (vector m t) marks = marked rows t marks
  marked rows (data_of d ts) marks = marked_args rows (marks_of (slice_get rows d)) ts marks
  marked rows _ marks = marks

  pub marked_args : List Row → List Bool → TypeTrees → List Bool → List Bool
  marked_args rows (true ∷ asks) (type_and t ts) marks = marked_args rows asks ts (marked rows t marks)
  marked_args rows (false ∷ asks) (type_and t ts) marks = marked_args rows asks ts marks
  marked_args rows _ _ marks = marks

abbrev pub fits_all : List Row → ℕ → List TypeTree → Bool
fits_all rows n [] = true
fits_all rows n (t ∷ ts) = fits rows n t && fits_all rows n ts

abbrev pub marked_all : List Row → List TypeTree → List Bool → List Bool
marked_all rows [] marks = marks
marked_all rows (t ∷ ts) marks = marked_all rows ts (marked rows t marks)
