use Rattle.std.proofs.Common.{◌≡◌, map, take}
use Rattle.chw_types.specs.Arguments.{arguments}
use Rattle.chw_types.specs.TypeMoves.{sub}
use Rattle.chw_types.specs.TypeView.{trees_of}
use Rattle.flow_cases.proofs.parts.fields_at.Given as goal

abbrev pub invariant-loop-field : goal.invariant-loop-field
invariant-loop-field l = l.types.items ≡ map (λ f. sub f (arguments (trees_of l.args))) (take l.field-index l.fields)
