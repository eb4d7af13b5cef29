use Rattle.rule_types.proofs.Called.{call_made_typed}
use Rattle.rule_types.proofs.laws.call_becomes_typed.Goals as goal

pub returns : goal.returns
returns c o at e ts t w none place lets call complete = call_made_typed c.names_of_modes.ensures.kind o at e ts t w none place lets call complete
