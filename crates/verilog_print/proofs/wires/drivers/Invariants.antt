-- the table tells the first drivers among the cells from this place on
use Rattle.std.proofs.Common.{◌≡◌, ◌<◌, ℕ, length, drop, slice_index_or, None}
use Rattle.netlist.specs.Wires.{driver}
use Rattle.verilog_print.specs.Drivers.{cell_at}
use Rattle.verilog_print.proofs.wires.drivers.Given as goal

abbrev pub invariant-loop-place : goal.invariant-loop-place
invariant-loop-place l = (length l.table.items ≡ l.count)
    × ((k : ℕ) → k < l.count → cell_at l.cells (slice_index_or l.table.items k None) ≡ driver (drop l.place l.cells) k)
