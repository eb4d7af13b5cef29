use Rattle.std.proofs.Common.{◌≡◌, ℕ, Some, take}
use Rattle.std.specs.List.{slice_get}
use Rattle.chw_types.specs.TypeTree.{data_of}
use Rattle.chw_types.specs.TypeView.{trees_of}
use Rattle.type_numbers.specs.Nodes.{Grows}
use Rattle.type_numbers.proofs.table.TypeTable.+put.Given as goal

-- the data type at the arguments so far has the number, and each type that was there has its own
abbrev pub invariant-loop-arg : goal.invariant-loop-arg
invariant-loop-arg l =
    ((d : ℕ) → data_of d (trees_of l.arg-items) ≡ l.ty → slice_get l.self l.done ≡ Some (data_of d (trees_of (take l.arg-index l.arg-items))))
    × Grows l.fn.self l.self
