-- the cells of the wires so far were pushed
use Rattle.net_flat.specs.Drivers.{ArePushed}
use Rattle.net_flat.proofs.tables.push_own.Given as goal

abbrev pub invariant-loop-w : goal.invariant-loop-w
invariant-loop-w l = ArePushed l.base l.m l.table l.w l.fn.cells.items l.cells.items
