use Rattle.normal_forms.proofs.ShownBlocked.{cycle_blocks, counter_is_free, function_blocks, wide_binding, long_vector}
use Rattle.normal_forms.proofs.examples.of_blocked_places.Goals as goal

pub returns : goal.returns
returns c = record { cycle = cycle_blocks; counter = counter_is_free; function = function_blocks; scalar = wide_binding; length = long_vector }
