use Rattle.std.proofs.Common.{refl, sym, ◌∙◌}
use Rattle.net_sim.proofs.BitLists.{differ_by_not, less_by_first}
use Rattle.net_sim.proofs.wide.is_less.Goals as goal

pub returns-then-left-i : goal.returns-then-left-i
returns-then-left-i c =
    sym (less_by_first c.args.left.now c.args.right.now c.loop-i.i c.requires.same c.loop-i-test.true (differ_by_not _ _ _ _ c.if-left-i.true refl refl))
    ∙ c.loop-i.invariant
