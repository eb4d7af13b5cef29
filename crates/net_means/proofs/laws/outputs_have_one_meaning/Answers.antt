use Rattle.net_means.proofs.OneOutput.{one_output}
use Rattle.net_means.proofs.laws.outputs_have_one_meaning.Goals as goal

pub returns : goal.returns
returns c = one_output c.a_wire_has_one_value.ensures c.at_most_one_meaning.ensures.meaning
