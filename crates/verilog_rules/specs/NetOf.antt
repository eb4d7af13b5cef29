-- The net of a resolved text: a cell for each item that drives wires, in their order.
use Rattle.std.specs.Prelude.{ℕ, ◌+◌, ◌==◌, Bool, List, [], ◌∷◌, map, if◌then◌else◌}
use Rattle.std.specs.Prelude.{Option, Some, None}
use Rattle.std.specs.List.{flat_map}
use Rattle.chw_base.specs.declared.index.WireId.{WireId}
use Rattle.chw_bits.specs.Bits.{bits_of}
use Rattle.netlist.specs.declared.net.Cell.{Cell}
use Rattle.netlist.specs.declared.net.Cell.TheVariants as cell
use Rattle.netlist.specs.declared.net.Module.{Module}
use Rattle.netlist.specs.declared.net.Net.{Net}
use Rattle.netlist.specs.declared.net.RamIn.{RamIn}
use Rattle.verilog_rules.specs.Texts.{amount, number, size}
use Rattle.verilog_rules.specs.WidthRules.{kind_at, literal_of, wire_widths}
use Rattle.verilog_rules.specs.declared.resolved.Driver.{Driver}
use Rattle.verilog_rules.specs.declared.resolved.Driver.TheVariants.{Assign, Output, Ram, Register}
use Rattle.verilog_rules.specs.declared.resolved.Driver.TheVariants.{Use}
use Rattle.verilog_rules.specs.declared.resolved.Operand.{Operand}
use Rattle.verilog_rules.specs.declared.resolved.RamOf.{RamOf}
use Rattle.verilog_rules.specs.declared.resolved.Resolved.{Resolved}
use Rattle.verilog_rules.specs.declared.resolved.ResolvedModule.{ResolvedModule}
use Rattle.verilog_rules.specs.declared.resolved.Value.{Value}
use Rattle.verilog_rules.specs.declared.resolved.Value.TheVariants.{Binary, Choice, Constant, Copy}
use Rattle.verilog_rules.specs.declared.resolved.Value.TheVariants.{Cut, Join, Unary}
use Rattle.verilog_tree.specs.declared.item.FirstWord.{FirstWord}
use Rattle.verilog_tree.specs.declared.word.Line.{Line}
use Rattle.verilog_tree.specs.declared.word.Word.{Word}

-- the bits that a literal means
abbrev pub bits : Word → List Bool
bits literal = bits_of (size literal) (amount literal)

-- the wire of an operand
abbrev pub wire : Operand → WireId
wire a = a.wire

-- the cell of an assignment to this wire
abbrev pub value_cell : WireId → Value → Cell
value_cell w (Constant literal) = cell.Const w (bits literal)
value_cell w (Copy a) = cell.Copy w a.wire
value_cell w (Join parts close) = cell.Join w (map wire parts)
value_cell w (Cut a range) = cell.Cut w a.wire (number range.from) (number range.to)
value_cell w (Unary op sign a) = cell.Un w op a.wire
value_cell w (Binary op sign a b) = cell.Bin w op a.wire b.wire
value_cell w (Choice c a b) = cell.Mux w c.wire a.wire b.wire

-- the first value of a register
abbrev pub first_bits : Option Word → List Bool
first_bits None = []
first_bits (Some literal) = bits literal

-- what a RAM reads
abbrev pub inputs_of : RamOf → RamIn
inputs_of ram = record {
  read = ram.read.address.wire;
  enable = ram.enable.wire;
  place = ram.write.address.wire;
  value = ram.value.wire;
}

-- the words of a RAM
abbrev pub words_of : RamOf → List (List Bool)
words_of ram = map (λ (word : FirstWord). bits word.literal) ram.words

-- the cell of a driver, which an output has none of
abbrev pub cells_by : ResolvedModule → Driver → List Cell
cells_by m (Assign w value) = value_cell w.wire value ∷ []
cells_by m (Output k at a) = []
cells_by m (Register w domain reset a) =
    cell.Reg w.wire domain (first_bits (literal_of (kind_at m.wires w))) a.wire ∷ []
cells_by m (Ram ram) = cell.Ram ram.register.wire ram.domain (words_of ram) (inputs_of ram) ∷ []
cells_by m (Use used reads drives) = cell.Use used (map wire reads) (map wire drives) ∷ []

-- the wire that is assigned to the output of this number
abbrev pub shown_wire : List Driver → ℕ → WireId
shown_wire [] k = record { number = 0 }
shown_wire (Output j at a ∷ drivers) k = if j == k then a.wire else shown_wire drivers k
shown_wire (_ ∷ drivers) k = shown_wire drivers k

-- the wires of the outputs from this number on
abbrev pub shown_wires : List Driver → ℕ → List Line → List WireId
shown_wires drivers k [] = []
shown_wires drivers k (l ∷ outputs) =
    shown_wire drivers k ∷ shown_wires drivers (k + 1) outputs

abbrev pub net_module : ResolvedModule → Module
net_module m = record {
  inputs = m.inputs;
  widths = wire_widths m;
  outputs = shown_wires m.drivers 0 m.outputs;
  cells = flat_map (cells_by m) m.drivers;
}

-- the net of a resolved text
abbrev pub net_of : Resolved → Net
net_of source = record { ports = source.ports; modules = map net_module source.modules }
