use Rattle.net_there.proofs.States.{state_ports}
use Rattle.net_there.proofs.laws.ports_are_there.Goals as goal

pub returns : goal.returns
returns c = λ p state typed normal begins.
    state_ports c.facts.ensures c.fields_keep_same.ensures c.same_types_keep_layout.ensures.measure c.steps_keep.ensures.origins p state typed normal begins
