-- the fields so far, from the last one on, have this sum
use Rattle.std.proofs.Common.{◌≡◌, drop}
use Rattle.chw_types.specs.Arguments.{arguments}
use Rattle.chw_types.specs.TypeView.{trees_of}
use Rattle.chw_layout.specs.Measured.{fits, MeasuredFields}
use Rattle.value_build.proofs.constructors.fields_width.Given as goal

abbrev pub invariant-loop-i : goal.invariant-loop-i
invariant-loop-i l =
    MeasuredFields l.initial.base.datas (drop l.i l.fields) (arguments (trees_of l.args)) (fits l.sum)
    × (l.base ≡ l.initial.base)
