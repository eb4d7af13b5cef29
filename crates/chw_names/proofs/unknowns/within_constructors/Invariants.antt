use Rattle.std.proofs.Common.{ℕ, List, take}
use Rattle.std.specs.List.{flat_map}
use Rattle.chw_names.specs.Unknowns.{Walks, constructor_unknowns}
use Rattle.chw_names.proofs.unknowns.within_constructors.Given as goal

abbrev pub invariant-loop-constructor : goal.invariant-loop-constructor
invariant-loop-constructor l = Walks (List (List ℕ)) l.initial.types l.types l.initial.least l.least (flat_map (constructor_unknowns l.globals l.initial.types) (take l.constructor-index l.constructors))
