use Rattle.chw_typing.proofs.Shown.{let_of_a_signal}
use Rattle.chw_typing.proofs.examples.of_lets.Goals as goal

pub returns : goal.returns
returns c = let_of_a_signal
