-- the cells of the kept wires so far
use Rattle.std.proofs.Common.{take}
use Rattle.net_share.specs.Making.{AreMade}
use Rattle.net_share.proofs.making.made_cells.Given as goal

abbrev pub invariant-loop-k : goal.invariant-loop-k
invariant-loop-k l = AreMade l.flat l.classes l.names l.first (take l.k l.kept) l.cells.items
