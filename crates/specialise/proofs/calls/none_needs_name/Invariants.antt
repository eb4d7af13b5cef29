use Rattle.rewriting.specs.Origins.{origins_of}
use Rattle.rewriting.specs.Spots.{spot_of}
use Rattle.specialise.proofs.Needs.{NoneBefore}
use Rattle.specialise.proofs.calls.none_needs_name.Given as goal

abbrev pub invariant-loop-arg : goal.invariant-loop-arg
invariant-loop-arg l = NoneBefore (origins_of l.scene) (spot_of l.place) l.args l.arg-index
