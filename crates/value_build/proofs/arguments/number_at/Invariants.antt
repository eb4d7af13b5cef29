-- the number is found among the arguments that are left
use Rattle.std.proofs.Common.{◌≡◌, drop, map}
use Rattle.std.specs.List.{slice_index}
use Rattle.chw_layout.specs.Measured.{closed_value}
use Rattle.value_build.specs.Arguments.{types_in}
use Rattle.value_build.proofs.arguments.number_at.Given as goal

abbrev pub invariant-loop-arg : goal.invariant-loop-arg
invariant-loop-arg l =
    slice_index (map closed_value (types_in l.args)) l.number
    ≡ slice_index (map closed_value (types_in (drop l.arg-index l.args))) l.left
