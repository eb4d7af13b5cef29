-- the cells of the drivers so far
use Rattle.std.proofs.Common.{◌≡◌, take}
use Rattle.std.specs.List.{flat_map}
use Rattle.verilog_rules.specs.NetOf.{cells_by}
use Rattle.verilog_judge.proofs.building.cells.Given as goal

abbrev pub invariant-loop-driver : goal.invariant-loop-driver
invariant-loop-driver l = l.cells.items ≡ flat_map (cells_by l.m) (take l.driver-index l.m.drivers)
