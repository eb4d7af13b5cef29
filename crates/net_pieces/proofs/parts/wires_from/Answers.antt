use Rattle.std.proofs.Common.{◌∙◌}
use Rattle.net_pieces.proofs.Choosing.{wires_from_next}
use Rattle.net_pieces.proofs.parts.wires_from.Goals as goal

pub loop-place-preserved : goal.loop-place-preserved
loop-place-preserved c =
    wires_from_next c.loop-place.wires.items c.push.new.self.items c.args.count c.loop-place._place c.loop-place.number
    c.in_ok-number.number c.loop-place-test.true c.in_ok-push.ensures.items c.in_ok-number.ensures
    ∙ c.loop-place.invariant
