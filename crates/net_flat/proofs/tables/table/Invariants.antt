-- the table has the drivers so far
use Rattle.std.proofs.Common.{◌≡◌, ◌+◌, length, take}
use Rattle.std.specs.Prelude.{flat_map}
use Rattle.netlist.specs.Wires.{driven}
use Rattle.net_flat.specs.Flattened.{wires_before}
use Rattle.net_flat.proofs.Filled.{Filled}
use Rattle.net_flat.proofs.tables.table.Given as goal

abbrev pub invariant-loop-place : goal.invariant-loop-place
invariant-loop-place l = record {
  size : length l.table.items ≡ length l.m.widths;
  filled : Filled l.net l.x.base l.m (flat_map driven (take l.place l.m.cells)) l.table.items;
  at : l.next ≡ l.x.base + wires_before l.net l.m (take l.place l.m.cells);
}
