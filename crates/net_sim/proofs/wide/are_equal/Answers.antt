use Rattle.std.proofs.Common.{refl, sym}
use Rattle.net_sim.proofs.BitLists.{differ_by_not, unequal_numbers}
use Rattle.net_sim.proofs.wide.are_equal.Goals as goal

pub returns-then-left-i : goal.returns-then-left-i
returns-then-left-i c =
    sym (unequal_numbers c.args.left.now c.args.right.now c.loop-i.i c.requires (differ_by_not _ _ _ _ c.if-left-i.true refl refl))
