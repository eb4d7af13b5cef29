use Rattle.std.proofs.Common.{length, map, ap, ◌∙◌}
use Rattle.chw_clock.specs.declared.event.Port.{Port}
use Rattle.wire_classes.proofs.Shown.{fits_first}
use Rattle.wire_classes.proofs.values.some_event.Goals as goal

pub returns : goal.returns
returns c =
    fits_first c.args.ports.now (record { ticks = c.from.result; resets = c.from-2.result; inputs = c.from-3.result }) c.requires
    (c.from.ensures ∙ c.in_ok-vec.ensures.items) (c.from-2.ensures ∙ c.new.ensures.items)
    (ap (map length) c.from-3.ensures ∙ c.in_ok-inputs.ensures ∙ ap (map (λ (port : Port). port.width)) c.as_slice.ensures)
