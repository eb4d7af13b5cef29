use Rattle.std.proofs.Common.{◌≡◌, map, take}
use Rattle.std.specs.Prelude.{reverse}
use Rattle.chw_types.specs.Arguments.{given}
use Rattle.chw_types.specs.TypeMoves.{sub, up_by}
use Rattle.chw_types.proofs.arguments.+fill.Given as goal

abbrev pub invariant-loop-part : goal.invariant-loop-part
invariant-loop-part l = l.done.items ≡ map (λ t. sub t (up_by l.under (given (reverse l.args)))) (take l.part-index l.part-items)
