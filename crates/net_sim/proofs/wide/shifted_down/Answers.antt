use Rattle.std.proofs.Common.{subst}
use Rattle.net_sim.specs.Parts.{HasBits}
use Rattle.net_sim.proofs.Shifting.{moved_down_word}
use Rattle.net_sim.proofs.wide.shifted_down.Goals as goal

pub returns : goal.returns
returns c =
    let capped = rw c.len.ensures at c.amount.ensures in
    subst (HasBits c.moved_down.result c.moved_down.new.room) (moved_down_word c.args.left.now c.amount.result _ capped) c.moved_down.ensures
