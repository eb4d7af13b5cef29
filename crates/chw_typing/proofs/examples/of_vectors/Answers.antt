use Rattle.chw_typing.proofs.Shown.{vector_of_two}
use Rattle.chw_typing.proofs.examples.of_vectors.Goals as goal

pub returns : goal.returns
returns c = vector_of_two
