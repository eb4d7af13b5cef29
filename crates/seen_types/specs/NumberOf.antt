-- The numbers of types in a table.
use Rattle.std.specs.Prelude.{◌≡◌, ℕ, List, Option, Some, IfSome}
use Rattle.std.specs.List.{slice_get}
use Rattle.chw_types.specs.TypeTree.{TypeTree}

-- the number, where there is one, is the type's in the table
abbrev pub IsNumberOf : List TypeTree → Option ℕ → TypeTree → Type 0
IsNumberOf ts o t = IfSome o (λ n. slice_get ts n ≡ Some t)
