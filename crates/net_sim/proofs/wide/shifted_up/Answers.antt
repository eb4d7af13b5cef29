use Rattle.std.proofs.Common.{subst}
use Rattle.net_sim.specs.Parts.{HasBits}
use Rattle.net_sim.proofs.Shifting.{moved_up_word}
use Rattle.net_sim.proofs.wide.shifted_up.Goals as goal

pub returns : goal.returns
returns c =
    let capped = rw c.len.ensures at c.amount.ensures in
    subst (HasBits c.moved_up.result c.moved_up.new.room) (moved_up_word c.args.left.now c.amount.result _ capped) c.moved_up.ensures
