use Rattle.netlist.specs.Orders.{wire_numbers}
use Rattle.netlist.proofs.Driven.{each_driven_once}
use Rattle.netlist.proofs.Exclusion.{no_cycle}
use Rattle.netlist.proofs.laws.an_order_excludes_loops.Goals as goal

pub returns : goal.returns
returns c flat places cycle s o l = no_cycle flat.cells places (wire_numbers cycle) (each_driven_once flat s).once o l.0
