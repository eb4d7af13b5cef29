use Rattle.std.proofs.Common.{◌∙◌}
use Rattle.net_pieces.proofs.Choosing.{words_next}
use Rattle.net_pieces.proofs.vectors.words_from_none.Goals as goal

pub loop-j-preserved : goal.loop-j-preserved
loop-j-preserved c =
    words_next c.loop-j.words.items c.push.new.self.items c.args.k c.loop-j.j c.args.count c.in_ok-number.field-0
    c.loop-j-test.true c.in_ok-push.ensures.items c.in_ok-number.ensures
    ∙ c.loop-j.invariant
