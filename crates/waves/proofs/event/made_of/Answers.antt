use Rattle.std.proofs.Common.{◌∙◌, length, ap, sym, false}
use Rattle.waves.proofs.Events.{made_text}
use Rattle.waves.proofs.Tables.{level_count}
use Rattle.waves.proofs.event.made_of.Goals as goal

pub put_values-requires-clause-levels : goal.put_values-requires-clause-levels
put_values-requires-clause-levels c = λ some.
    c.requires.table.levels some ∙ sym (level_count c.args.ports.now false c.args.event.now 0 c.args.ports.now.domains)
    ∙ sym (ap length (c.deref.ensures.value ∙ c.in_ok-low.ensures))

pub returns-clause-text : goal.returns-clause-text
returns-clause-text c =
    made_text c.args.ports.now c.args.number _ c.args.event.now c.args.outputs.now c.deref.result.now c.deref-2.result.now c.deref-3.result.now c.as_slice.result.now
    c.in_ok-text.text.items c.put_time.new.out.items c.put_values.new.out.items c.put_time-2.new.out.items c.put_levels.new.out.items
    c.in_ok-text.ensures.items c.in_ok-put_time.ensures (c.deref.ensures.value ∙ c.in_ok-low.ensures) c.as_slice.ensures c.in_ok-put_values.ensures c.in_ok-put_time-2.ensures
    (c.deref-2.ensures.value ∙ c.in_ok-low.ensures) (c.deref-3.ensures.value ∙ c.in_ok-high.ensures) c.in_ok-put_levels.ensures
