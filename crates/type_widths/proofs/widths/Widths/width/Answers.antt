use Rattle.type_widths.proofs.Told.{width_told, refusal_told}
use Rattle.type_widths.proofs.widths.Widths.width.Goals as goal

pub returns-clause-width : goal.returns-clause-width
returns-clause-width c = width_told c.args.self.now c.args.t.now c.in_ok-outcome.outcome c.told.result c.in_ok-outcome.ensures.comes c.told.ensures

pub returns-clause-refused : goal.returns-clause-refused
returns-clause-refused c =
    refusal_told c.measured_types.ensures.there c.args.self.now c.args.t.now c.in_ok-outcome.outcome c.told.result c.in_ok-outcome.ensures.comes c.told.ensures
