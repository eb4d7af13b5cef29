use Rattle.std.proofs.Common.{◌∙◌, arith}
use Rattle.net_pieces.proofs.Choosing.{elements_next}
use Rattle.net_pieces.proofs.vectors.elements.Goals as goal

pub loop-behind-preserved : goal.loop-behind-preserved
loop-behind-preserved c =
    elements_next c.loop-behind.into c.element.new.into c.args.width c.loop-behind.behind c.args.v.now
    (omega (arith, c.loop-behind-test.true)) c.in_ok-element.ensures
    ∙ c.loop-behind.invariant
