use Rattle.std.proofs.Common.{◌++◌, [], ◌∷◌, sym, subst}
use Rattle.chw_clock.specs.Histories.{HaveWidths}
use Rattle.waves.specs.Holding.{HoldsVcd, Printed}
use Rattle.waves.proofs.Events.{holds_more, view_more}
use Rattle.waves.proofs.Tables.{widths_of}
use Rattle.waves.proofs.printer.VcdOut.event.Goals as goal

pub put_event-requires-clause-inputs : goal.put_event-requires-clause-inputs
put_event-requires-clause-inputs c =
    widths_of c.self.inside.ports.now.inputs c.args.event.now.inputs (subst (λ (it : Printed). HaveWidths it.ports.inputs c.args.event.now.inputs) (sym c.self.view_is) c.requires.inputs)

pub put_event-requires-clause-outputs : goal.put_event-requires-clause-outputs
put_event-requires-clause-outputs c =
    widths_of c.self.inside.ports.now.outputs c.args.outputs.now (subst (λ (it : Printed). HaveWidths it.ports.outputs c.args.outputs.now) (sym c.self.view_is) c.requires.outputs)

pub returns-clause-holds : goal.returns-clause-holds
returns-clause-holds c = λ events shown held.
    subst (HoldsVcd (events ++ c.args.event.now ∷ []) (shown ++ c.args.outputs.now ∷ []))
    (sym (view_more c.self.inside.ports.now c.self.inside.events c.self.inside.last c.put_event.new.last c.self.inside.text.items c.put_event.new.out.items c.args.self.now
    c.args.event.now c.args.outputs.now c.self.view_is c.in_ok-put_event.ensures.text c.in_ok-put_event.ensures.last))
    (holds_more events shown c.args.self.now c.args.event.now c.args.outputs.now held)
