use Rattle.std.proofs.Common.{◌≡◌, flat_map, take}
use Rattle.netlist.specs.Wires.{driven}
use Rattle.net_rules.proofs.well_formed.drivers.driven_by.Given as goal

-- the wires that the cells so far drive
abbrev pub invariant-loop-cell : goal.invariant-loop-cell
invariant-loop-cell l = l.wires.items ≡ flat_map driven (take l.cell-index l.cells)
