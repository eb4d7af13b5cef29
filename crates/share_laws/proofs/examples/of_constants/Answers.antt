use Rattle.share_laws.proofs.ExamplesShown.{choice_is_first, sum_is_known}
use Rattle.share_laws.proofs.examples.of_constants.Goals as goal

pub returns : goal.returns
returns c = record { sum = sum_is_known; choice = choice_is_first }
