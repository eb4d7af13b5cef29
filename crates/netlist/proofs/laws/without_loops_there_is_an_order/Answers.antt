use Rattle.netlist.proofs.Ordered.{an_order}
use Rattle.netlist.proofs.laws.without_loops_there_is_an_order.Goals as goal

pub returns : goal.returns
returns c = λ flat sound no_loop. an_order flat sound no_loop
