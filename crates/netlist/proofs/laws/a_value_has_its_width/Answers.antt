use Rattle.netlist.proofs.Lengths.{value_width}
use Rattle.netlist.proofs.laws.a_value_has_its_width.Goals as goal

pub returns : goal.returns
returns c = λ flat h w bits sound fits v. value_width flat sound h w bits fits v
