use Rattle.std.proofs.Common.{refl}
use Rattle.net_sim.proofs.BitLists.{differ_by_test, less_by_sign}
use Rattle.net_sim.proofs.wide.is_less_signed.Goals as goal

pub returns-else-sign-right : goal.returns-else-sign-right
returns-else-sign-right c =
    less_by_sign c.args.left.now c.args.right.now _ _ refl refl (differ_by_test _ _ c.if-sign-right.false)
