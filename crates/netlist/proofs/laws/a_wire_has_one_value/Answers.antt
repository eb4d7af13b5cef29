use Rattle.netlist.proofs.OneValue.{one_value}
use Rattle.netlist.proofs.laws.a_wire_has_one_value.Goals as goal

pub returns : goal.returns
returns c = λ flat h w a b sound u v. one_value flat sound h w a b u v
