use Rattle.std.proofs.Common.{not, map}
use Rattle.net_sim.proofs.Made.{from_word}
use Rattle.net_sim.proofs.narrow.made_of_one.Goals as goal

pub returns-in-Not : goal.returns-in-Not
returns-in-Not c =
    rw c.in-Not.is
    (from_word (λ k u. map not u) c.len-width.result c.flipped.result c.number-n.result c.args.word.now c.len-width.ensures
    c.number-n.ensures.bits c.flipped.ensures.bits c.flipped.ensures.below)
