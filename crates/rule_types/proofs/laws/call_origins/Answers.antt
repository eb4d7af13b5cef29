use Rattle.rule_types.proofs.Calls.{call_complete, call_typed}
use Rattle.rule_types.proofs.laws.call_origins.Goals as goal

pub returns : goal.returns
returns c = record { types = call_typed c.names_of_modes.ensures.kind; complete = call_complete }
