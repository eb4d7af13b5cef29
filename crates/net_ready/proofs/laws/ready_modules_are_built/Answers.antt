use Rattle.net_ready.proofs.ModulesThere.{module_there}
use Rattle.net_ready.proofs.laws.ready_modules_are_built.Goals as goal

pub returns : goal.returns
returns c = λ ground it ready. module_there ground it ready
