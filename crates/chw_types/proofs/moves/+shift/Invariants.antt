use Rattle.std.proofs.Common.{◌≡◌, map, take}
use Rattle.chw_types.specs.TypeMoves.{shift}
use Rattle.chw_types.proofs.moves.+shift.Given as goal

abbrev pub invariant-loop-arg : goal.invariant-loop-arg
invariant-loop-arg l = l.done.items ≡ map (λ t. shift t l.from l.by) (take l.arg-index l.arg-items)
