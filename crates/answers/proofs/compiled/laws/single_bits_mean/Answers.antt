use Rattle.answers.proofs.Compilation.SingleBits.{single_bits_mean}
use Rattle.answers.proofs.compiled.laws.single_bits_mean.Goals as goal

pub returns : goal.returns
returns c = single_bits_mean c.at_most_one_meaning.ensures.ports c.single_bits_keep_bits.ensures.outputs
