use Rattle.net_build.proofs.Marks.{none_below}
use Rattle.net_build.proofs.building.unordered.Goals as goal

pub of-requires : goal.of-requires
of-requires c = none_below 0 c.new.result.items c.new.ensures.items
