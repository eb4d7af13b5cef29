use Rattle.net_there.proofs.Modules.{module_ready}
use Rattle.net_there.proofs.laws.modules_are_ready.Goals as goal

pub returns : goal.returns
returns c = λ p state m it typed normal is.
    module_ready c.facts.ensures c.same_values.ensures c.fields_keep_same.ensures c.same_types_keep_layout.ensures.measure c.encodings.ensures.there c.kinds_of_named_types.ensures.representable c.steps_keep.ensures.origins p state m it typed normal is
