use Rattle.net_means.proofs.Inputs.{top_given}
use Rattle.net_means.proofs.laws.inputs_are_given.Goals as goal

pub returns : goal.returns
returns c d top last typed begins first fit = top_given c.facts.ensures c.encoding_width.ensures c.same_values.ensures c.fields_keep_same.ensures d top last typed begins first fit
