use Rattle.normal_forms.proofs.Shown.{no_cycle, no_lambda, no_variable_begins, one_too_many}
use Rattle.normal_forms.proofs.examples.of_other_forms.Goals as goal

pub returns : goal.returns
returns c = record { cycle = no_cycle; lambda = no_lambda; begins = no_variable_begins; lifted = one_too_many }
