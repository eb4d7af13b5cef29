use Rattle.std.proofs.Common.{length}
use Rattle.net_build.proofs.Marks.{no_marks, none_below}
use Rattle.net_build.proofs.placed.Placed.none.Goals as goal

pub invariant_of-result : goal.invariant_of-result
invariant_of-result c = (
  no_marks c.args.count c.new.result.items c.in_ok-is_placed.is_placed.items c.new.ensures.items c.in_ok-is_placed.ensures,
  none_below (length c.in_ok-is_placed.is_placed.items) c.new.result.items c.new.ensures.items,
)
