use Rattle.chw_typing.proofs.Shown.{identity, lambda_over_a_signal, applied_to_a_signal, sum_of_naturals}
use Rattle.chw_typing.proofs.examples.of_functions.Goals as goal

pub returns : goal.returns
returns c = record {
  identity = identity;
  forgets = lambda_over_a_signal;
  applied = applied_to_a_signal;
  sum = sum_of_naturals;
}
