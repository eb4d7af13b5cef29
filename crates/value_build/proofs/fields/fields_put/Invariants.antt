-- the fields so far
use Rattle.std.proofs.Common.{◌≡◌, map, take}
use Rattle.chw_types.specs.Arguments.{arguments}
use Rattle.chw_types.specs.TypeMoves.{sub}
use Rattle.chw_types.specs.TypeView.{trees_of}
use Rattle.value_build.proofs.fields.fields_put.Given as goal

abbrev pub invariant-loop-field : goal.invariant-loop-field
invariant-loop-field l =
    l.done.items ≡ map (λ f. sub f (arguments (trees_of l.args))) (take l.field-index l.fields)
