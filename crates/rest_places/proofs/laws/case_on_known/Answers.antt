use Rattle.rest_places.proofs.Known.{case_on_known}
use Rattle.rest_places.proofs.laws.case_on_known.Goals as goal

pub returns : goal.returns
returns c = case_on_known
