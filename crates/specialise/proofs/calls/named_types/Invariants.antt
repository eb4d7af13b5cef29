use Rattle.std.proofs.Common.{take}
use Rattle.rewriting.specs.Origins.{origins_of}
use Rattle.rewriting.specs.Spots.{spot_of}
use Rattle.specialise.specs.Calls.{HaveTypes}
use Rattle.specialise.specs.Closed.{numbers}
use Rattle.specialise.proofs.calls.named_types.Given as goal

abbrev pub invariant-loop-at : goal.invariant-loop-at
invariant-loop-at l =
    HaveTypes (origins_of l.scene) (spot_of l.place) (numbers (take l.at-index l.free))
    l.types.items
