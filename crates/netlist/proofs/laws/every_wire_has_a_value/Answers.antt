use Rattle.netlist.proofs.Ordered.{an_order}
use Rattle.netlist.proofs.Values.{every_value}
use Rattle.netlist.proofs.laws.every_wire_has_a_value.Goals as goal

pub returns : goal.returns
returns c = λ flat h w sound no_loop fits lt. let o = an_order flat sound no_loop in every_value flat o.0 sound o.1 h fits w lt
