use Rattle.std.proofs.Common.{◌≡◌, ◌++◌, take}
use Rattle.std.specs.List.{flat_map}
use Rattle.term_signs.proofs.TypesWritten.{one_type}
use Rattle.term_signs.proofs.types.+write_type.Given as goal

abbrev pub invariant-loop-arg : goal.invariant-loop-arg
invariant-loop-arg l = l.out.items ≡ l.initial.out.items ++ flat_map one_type (take l.arg-index l.arg-items)
