-- Wires and cells under new numbers.
use Rattle.std.specs.Prelude.{ℕ, ◌<◌, List, length, map, slice_index}
use Rattle.chw_base.specs.declared.index.WireId.{WireId}
use Rattle.netlist.specs.declared.net.Cell.{Cell}
use Rattle.netlist.specs.declared.net.Cell.TheVariants.{Const, Copy, Join, Cut, Un, Bin, Mux}
use Rattle.netlist.specs.declared.net.Cell.TheVariants.{Reg, Ram, Use}

-- the list tells the new number of the wire
abbrev pub IsNamed : List ℕ → WireId → Type 0
IsNamed names w = w.number < length names

-- the wire of this number
abbrev pub wire_of : ℕ → WireId
wire_of n = record { number = n }

-- what becomes of the wire
abbrev pub new_wire : List ℕ → WireId → WireId
new_wire names w = record { number = slice_index names w.number }

-- what becomes of the wires
abbrev pub new_wires : List ℕ → List WireId → List WireId
new_wires names wires = map (new_wire names) wires

-- the cell, where it drives the wire of this number and reads what its wires become
abbrev pub renamed : List ℕ → ℕ → Cell → Cell
renamed names n (Const w bits) = Const (wire_of n) bits
renamed names n (Copy w a) = Copy (wire_of n) (new_wire names a)
renamed names n (Join w parts) = Join (wire_of n) (new_wires names parts)
renamed names n (Cut w a high low) = Cut (wire_of n) (new_wire names a) high low
renamed names n (Un w op a) = Un (wire_of n) op (new_wire names a)
renamed names n (Bin w op a b) = Bin (wire_of n) op (new_wire names a) (new_wire names b)
renamed names n (Mux w c a b) =
    Mux (wire_of n) (new_wire names c) (new_wire names a) (new_wire names b)
renamed names n (Reg w domain initial a) = Reg (wire_of n) domain initial (new_wire names a)
renamed names n (Ram w domain words inputs) = Ram (wire_of n) domain words (record {
  read = new_wire names inputs.read;
  enable = new_wire names inputs.enable;
  place = new_wire names inputs.place;
  value = new_wire names inputs.value;
})
renamed names n (Use m reads drives) = Use m (new_wires names reads) drives
