use Rattle.net_built.proofs.ValuesOnce.{modules_once}
use Rattle.net_built.proofs.laws.one_list_of_modules.Goals as goal

pub returns : goal.returns
returns c = λ ground state ms a b free x y. modules_once ground state ms a b free x y
