use Rattle.chw_prims.proofs.All.{all}
use Rattle.chw_prims.proofs.name_laws.all_are_all.Goals as goal

pub returns : goal.returns
returns c = all
