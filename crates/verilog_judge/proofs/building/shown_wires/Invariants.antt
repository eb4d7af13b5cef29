-- the wires are those that the drivers from this place on give
use Rattle.std.proofs.Common.{◌≡◌, ◌<◌, ℕ, length, drop, slice_index_or}
use Rattle.verilog_judge.specs.Shown.{no_wire}
use Rattle.verilog_rules.specs.NetOf.{shown_wire}
use Rattle.verilog_judge.proofs.building.shown_wires.Given as goal

abbrev pub invariant-loop-place : goal.invariant-loop-place
invariant-loop-place l = (length l.wires.items ≡ l.count)
    × ((k : ℕ) → k < l.count → slice_index_or l.wires.items k no_wire ≡ shown_wire (drop l.place l.drivers) k)
