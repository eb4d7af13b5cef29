use Rattle.std.proofs.Common.{◌≡◌, ◌++◌, map, take}
use Rattle.chw_types.specs.TypeMoves.{raised}
use Rattle.chw_typing.specs.Groups.{rename_arg}
use Rattle.flow_demanded.proofs.moves.with_args_under.Given as goal

abbrev pub invariant-loop-arg : goal.invariant-loop-arg
invariant-loop-arg l = l.done.items ≡ l.fn.done.items ++ map (rename_arg (raised 0 l.binders)) (take l.arg-index l.args)
