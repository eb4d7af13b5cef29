use Rattle.steady_laws.proofs.Shown.{function_of_values, counter_moves, sample_stays}
use Rattle.steady_laws.proofs.examples.of_steady.Goals as goal

pub returns : goal.returns
returns c = record { function = function_of_values; counter = counter_moves; sample = sample_stays }
