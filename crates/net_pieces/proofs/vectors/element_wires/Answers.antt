use Rattle.std.proofs.Common.{◌∙◌, ◌+◌, ap, ℕ}
use Rattle.net_pieces.proofs.Choosing.{element_wires_next}
use Rattle.net_pieces.proofs.vectors.element_wires.Goals as goal

pub loop-place-preserved : goal.loop-place-preserved
loop-place-preserved c =
    element_wires_next c.loop-place.all.items c.push.new.self.items c.args.width c.args.count c.loop-place._place c.loop-place.number
    c.in_ok-number.number c.in_ok-new_wires.field-0 c.loop-place-test.true c.in_ok-push.ensures.items c.in_ok-new_wires.ensures
    (c.in_ok-number.ensures ∙ ap (λ (n : ℕ). c.loop-place.number + n) c.min.ensures)
    ∙ c.loop-place.invariant
