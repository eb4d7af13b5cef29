use Rattle.std.proofs.Common.{◌≡◌, map, take}
use Rattle.chw_types.specs.Arguments.{arguments}
use Rattle.chw_types.specs.TypeMoves.{sub}
use Rattle.chw_types.specs.TypeView.{trees_of}
use Rattle.active_parts.proofs.cases.fields_at.Given as goal

abbrev pub invariant-loop-field : goal.invariant-loop-field
invariant-loop-field l = l.done.items ≡ map (λ f. sub f (arguments (trees_of l.args))) (take l.field-index l.fields)
