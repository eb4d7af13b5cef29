use Rattle.normal_forms.proofs.Counter.{counter_is_normal}
use Rattle.normal_forms.proofs.Shown.{counter_is_circuit, two_lifted, constants, case_of_blocks}
use Rattle.normal_forms.proofs.examples.of_forms.Goals as goal

pub returns : goal.returns
returns c = record { counter = counter_is_circuit; normal = counter_is_normal; lifted = two_lifted; constants = constants; blocks = case_of_blocks }
